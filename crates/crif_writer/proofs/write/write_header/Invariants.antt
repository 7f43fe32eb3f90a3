use Rattle.std.proofs.Common.{◌≡◌, map, take}
use Rattle.crif_reader.specs.Columns.{column_name}
use Rattle.crif_writer.specs.Text.{written_columns}
use Rattle.crif_writer.proofs.write.write_header.Given as goal

abbrev pub invariant-loop-column : goal.invariant-loop-column
invariant-loop-column l = l.fields ≡ map column_name (take l.column-index written_columns)
