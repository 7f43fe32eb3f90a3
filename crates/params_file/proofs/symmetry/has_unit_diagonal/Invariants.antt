use Rattle.std.proofs.Common.{◌≡◌, true, pos}
use Rattle.std.specs.Ordering.{int_eq}
use Rattle.simm_params.specs.Matrix.{entry}
use Rattle.params_file.specs.Symmetry.{all_below}
use Rattle.params_file.proofs.symmetry.has_unit_diagonal.Given as goal

abbrev pub invariant-loop-place : goal.invariant-loop-place
invariant-loop-place l = all_below l.place (λ place. int_eq (entry l.matrix place place) (pos 10000)) ≡ true
