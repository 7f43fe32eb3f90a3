use Rattle.std.proofs.Common.{◌≡◌, map, take}
use Rattle.measured_bucket.specs.Explained.{without_group}
use Rattle.class_priced.proofs.curvature.name_weighings.Given as goal

abbrev pub invariant-loop-name : goal.invariant-loop-name
invariant-loop-name l = l.weighings.items ≡ map (λ name. without_group l.sigma.0 name.sum) (take l.name-index l.names)
