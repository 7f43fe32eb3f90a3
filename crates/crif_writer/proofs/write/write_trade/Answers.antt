use Rattle.std.proofs.Common.{◌∷◌, [], length, get_or, map, take, ap, ◌∙◌, arith}
use Rattle.std.proofs.lemmas.List.{map-append, take_all}
use Rattle.crif_reader.proofs.SimmKinds.Repeated.{take_next}
use Rattle.crif_writer.specs.Rows.{row_fields, HasRowParts}
use Rattle.crif_writer.specs.Text.{WritesMore}
use Rattle.crif_reader.proofs.All.{all_more}
use Rattle.crif_writer.proofs.Writes.{writes_none, writes_then}
use Rattle.crif_writer.proofs.write.write_trade.Goals as goal

pub loop-row-init : goal.loop-row-init
loop-row-init c = record { text = writes_none c.args.writer.now; name = c.bytes-name.ensures.name; parts = tt }

pub loop-row-preserved : goal.loop-row-preserved
loop-row-preserved c =
    let rows = c.args.trade.now.rows in
    let i = c.loop-row.row-index in
    let inv = c.loop-row.invariant in
    let items = c.as_slice-row-items.ensures in
    let next = take_next rows i c.row-item.result (omega (arith, ap length items)) (c.row-item.is ∙ ap (λ xs. get_or xs i c.row-item.result) items) in
    let added : WritesMore c.loop-row.writer c.write_fields.new.writer (row_fields c.args.trade.now.trade c.row-item.result ∷ []) = rw (← c.in_ok-fill.ensures.fields) c.in_ok-write_fields.ensures in
    record {
      text = rw (next, map-append (row_fields c.args.trade.now.trade) (take i rows) (c.row-item.result ∷ [])) (writes_then c.args.writer.now c.loop-row.writer c.write_fields.new.writer (map (row_fields c.args.trade.now.trade) (take i rows)) (row_fields c.args.trade.now.trade c.row-item.result ∷ []) inv.text added);
      name = inv.name;
      parts = rw next (all_more HasRowParts (take i rows) c.row-item.result inv.parts c.in_ok-fill.ensures.parts);
    }

pub returns-clause-text : goal.returns-clause-text
returns-clause-text c =
    let rows = c.args.trade.now.rows in
    let all = take_all c.loop-row.row-index rows (omega (arith, ap length c.as_slice-row-items.ensures)) in
    rw all at c.loop-row.invariant.text
