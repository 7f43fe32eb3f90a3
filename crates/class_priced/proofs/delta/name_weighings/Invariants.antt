use Rattle.std.proofs.Common.{◌≡◌, map, take}
use Rattle.measured_bucket.specs.Explained.{from_itself}
use Rattle.class_priced.proofs.delta.name_weighings.Given as goal

abbrev pub invariant-loop-name : goal.invariant-loop-name
invariant-loop-name l = l.weighings.items ≡ map (λ name. from_itself l.weight.0 l.threshold name.net) (take l.name-index l.names)
