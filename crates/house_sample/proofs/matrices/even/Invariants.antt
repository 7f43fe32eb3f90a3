use Rattle.std.proofs.Common.{◌≡◌}
use Rattle.house_sample.specs.Matrices.{rows_to}
use Rattle.house_sample.proofs.matrices.even.Given as goal

abbrev pub invariant-loop-place : goal.invariant-loop-place
invariant-loop-place l = l.rows.items ≡ rows_to l.rate.0 l.size l.place
