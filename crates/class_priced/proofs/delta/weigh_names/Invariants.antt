use Rattle.std.proofs.Common.{◌≡◌, map, take}
use Rattle.measured_bucket.specs.Alone.{weighed_alone}
use Rattle.class_priced.proofs.delta.weigh_names.Given as goal

abbrev pub invariant-loop-name : goal.invariant-loop-name
invariant-loop-name l = l.weighed.items ≡ map (λ name. weighed_alone l.weight.0 l.threshold name.net) (take l.name-index l.names)
