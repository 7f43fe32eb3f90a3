use Rattle.std.proofs.Common.{◌≡◌}
use Rattle.house_sample.specs.Matrices.{row_to}
use Rattle.house_sample.proofs.matrices.row.Given as goal

abbrev pub invariant-loop-column : goal.invariant-loop-column
invariant-loop-column l = l.row ≡ row_to l.rate.0 l.place l.column
