use Rattle.std.proofs.Common.{◌≡◌, map, take}
use Rattle.measured_bucket.specs.Explained.{without_group}
use Rattle.class_credit.proofs.base.index_weighings.Given as goal

abbrev pub invariant-loop-index : goal.invariant-loop-index
invariant-loop-index l = l.weighings.items ≡ map (λ index. without_group l.weight.0 index.net) (take l.index-index l.indices)
