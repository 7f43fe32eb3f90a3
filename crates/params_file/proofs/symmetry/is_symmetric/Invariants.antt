use Rattle.std.proofs.Common.{◌≡◌, true}
use Rattle.params_file.specs.Symmetry.{all_below, is_mirrored}
use Rattle.params_file.proofs.symmetry.is_symmetric.Given as goal

abbrev pub invariant-loop-row : goal.invariant-loop-row
invariant-loop-row l = all_below l.row (λ row. all_below row (is_mirrored l.matrix row)) ≡ true
