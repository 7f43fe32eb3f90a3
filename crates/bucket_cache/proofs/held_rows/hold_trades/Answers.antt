use Rattle.std.proofs.Common.{sym, ap, ◌∙◌}
use Rattle.bucket_cache.specs.RowsAt.{rows_at}
use Rattle.bucket_cache.specs.Entries.{held_trades}
use Rattle.bucket_cache.proofs.HeldRows.{rows_at-found, held_more}
use Rattle.bucket_cache.proofs.held_rows.hold_trades.Goals as goal

pub loop-index-preserved : goal.loop-index-preserved
loop-index-preserved c =
    let index = c.loop-index.index in
    let trade = c.index-trades-index.result in
    ap held_trades c.in_ok-push.ensures.items
    ∙ held_more c.loop-index.held.items c.trades-trades.result.now index trade _ c.loop-index.invariant c.loop-index-test.true c.index-trades-index.is c.in_ok-trade.ensures
    (ap (λ ts. rows_at ts index) (c.in_ok-batch.ensures ∙ sym c.trades-trades.ensures.value) ∙ sym (rows_at-found c.trades-trades.result.now index trade c.loop-index-test.true c.index-trades-index.is))
