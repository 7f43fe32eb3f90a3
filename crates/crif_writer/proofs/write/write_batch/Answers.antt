use Rattle.std.proofs.Common.{◌∷◌, [], length, get_or, take, ap, ◌∙◌, arith}
use Rattle.std.specs.List.{flat_map, AllByRecursion}
use Rattle.std.proofs.lemmas.Grind.{flat_map-append}
use Rattle.std.proofs.lemmas.List.{append-nil, take_all}
use Rattle.crif_reader.proofs.SimmKinds.Repeated.{take_next}
use Rattle.crif_writer.specs.Text.{header_fields, trade_records, batch_text, HasWritten, HasTradeParts}
use Rattle.crif_writer.proofs.ReadsBack.{on_ok, text_reads_back}
use Rattle.crif_reader.proofs.All.{all_more}
use Rattle.crif_writer.proofs.Writes.{after_nothing, after_records}
use Rattle.crif_writer.proofs.write.write_batch.Goals as goal

pub loop-trade-init : goal.loop-trade-init
loop-trade-init c = record { text = after_nothing _ _ _ c.in_ok-write_header.ensures c.open-writer.ensures; parts = tt }

pub loop-trade-preserved : goal.loop-trade-preserved
loop-trade-preserved c =
    let trades = c.args.batch.now in
    let i = c.loop-trade.trade-index in
    let trade = c.trade-item.result in
    let items = c.trades-trade-items.ensures.value in
    let next = take_next trades i trade (omega (arith, ap length items)) (c.trade-item.is ∙ ap (λ xs. get_or xs i trade) items) in
    let inv = c.loop-trade.invariant in
    record {
      text = rw (next, flat_map-append trade_records (take i trades) (trade ∷ []), append-nil (trade_records trade)) (after_records c.loop-trade.writer c.write_trade.new.writer (header_fields ∷ flat_map trade_records (take i trades)) (trade_records trade) c.in_ok-write_trade.ensures.text inv.text);
      parts = rw next (all_more HasTradeParts (take i trades) trade inv.parts c.in_ok-write_trade.ensures.parts);
    }

pub returns-clause-reads_back : goal.returns-clause-reads_back
returns-clause-reads_back c =
    let trades = c.args.batch.now in
    let items = c.trades-trade-items.ensures in
    let all = take_all c.loop-trade.trade-index trades (omega (arith, ap length items.value)) in
    let text : HasWritten c.loop-trade.writer (batch_text trades) = rw all at c.loop-trade.invariant.text in
    let parts : AllByRecursion HasTradeParts trades = rw all at c.loop-trade.invariant.parts in
    text_reads_back c.close.result trades (c.close.ensures (batch_text trades) text) items.batch parts

pub returns-clause-parts : goal.returns-clause-parts
returns-clause-parts c =
    let trades = c.args.batch.now in
    let items = c.trades-trade-items.ensures in
    let all = take_all c.loop-trade.trade-index trades (omega (arith, ap length items.value)) in
    let parts : AllByRecursion HasTradeParts trades = rw all at c.loop-trade.invariant.parts in
    on_ok c.close.result (AllByRecursion HasTradeParts trades) parts
