use Rattle.std.proofs.Common.{◌≡◌, map, take}
use Rattle.class_credit.specs.Base.{weighed_net}
use Rattle.class_credit.proofs.base.weigh_indices.Given as goal

abbrev pub invariant-loop-index : goal.invariant-loop-index
invariant-loop-index l = l.weighed.items ≡ map (λ index. weighed_net l.weight.0 index.net) (take l.index-index l.indices)
