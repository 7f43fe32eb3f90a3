use Rattle.std.proofs.Common.{◌≡◌}
use Rattle.house_sample.specs.Matrices.{alike}
use Rattle.house_sample.proofs.matrices.alike.Given as goal

abbrev pub invariant-loop-place : goal.invariant-loop-place
invariant-loop-place l = l.rates ≡ alike l.rate.0 l._place
