use Rattle.std.proofs.Common.{◌≡◌, true}
use Rattle.params_file.specs.Symmetry.{all_below, is_mirrored}
use Rattle.params_file.proofs.symmetry.is_row_mirrored.Given as goal

abbrev pub invariant-loop-column : goal.invariant-loop-column
invariant-loop-column l = all_below l.column (is_mirrored l.matrix l.row) ≡ true
