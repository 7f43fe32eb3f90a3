-- The text of a fault's line.
use Rattle.std.specs.Prelude.{ℕ, List, ◌++◌}
use Rattle.fault_text.specs.Fields.{last_field}
use Rattle.command_files.specs.declared.fault_line.FaultLine.{FaultLine}
use Rattle.command_files.specs.declared.fault_line.FaultLine.TheVariants.{Whole, Named}

abbrev pub line_text : FaultLine → List ℕ
line_text (Whole bytes) = bytes.now
line_text (Named fields name) = fields.now ++ last_field name.now
