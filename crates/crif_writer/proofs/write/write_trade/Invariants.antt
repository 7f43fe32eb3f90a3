use Rattle.std.proofs.Common.{take, map}
use Rattle.std.specs.List.{AllByRecursion}
use Rattle.crif_reader.specs.SimmKinds.NameText.{IsName}
use Rattle.crif_writer.specs.Rows.{row_fields, HasRowParts}
use Rattle.crif_writer.specs.Text.{WritesMore}
use Rattle.crif_writer.proofs.write.write_trade.Given as goal

abbrev pub invariant-loop-row : goal.invariant-loop-row
invariant-loop-row l = record {
  text : WritesMore l.fn.writer l.writer (map (row_fields l.trade.trade) (take l.row-index l.trade.rows));
  name : IsName l.trade.trade;
  parts : AllByRecursion HasRowParts (take l.row-index l.trade.rows);
}
