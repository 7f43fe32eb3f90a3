use Rattle.std.proofs.Common.{length, sym, arith}
use Rattle.std.proofs.lemmas.Bool.{lt-ltb}
use Rattle.simm_kinds.specs.Batch.{rows_of}
use Rattle.simm_kinds.proofs.Rows.{length-flat_map_front}
use Rattle.simm_kinds.proofs.batch_faults.has_too_many_rows.Goals as goal

pub returns-then-more-count : goal.returns-then-more-count
returns-then-more-count c =
    let trades = c.args.trades.now in
    let front = length-flat_map_front (λ t. t.rows) trades c.loop-trade.trade-index c.trade-item.result (omega arith) c.trade-item.is in
    sym (lt-ltb 100000 (length (rows_of trades)) (omega (arith, front)))
