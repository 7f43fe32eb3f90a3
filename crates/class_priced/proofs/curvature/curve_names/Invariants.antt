use Rattle.std.proofs.Common.{◌≡◌, map, take}
use Rattle.measured_bucket.specs.Risk.{curved_by}
use Rattle.class_priced.proofs.curvature.curve_names.Given as goal

abbrev pub invariant-loop-name : goal.invariant-loop-name
invariant-loop-name l = l.risks.items ≡ map (λ name. curved_by l.sigma.0 name.sum) (take l.name-index l.names)
