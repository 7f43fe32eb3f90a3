use Rattle.std.proofs.Common.{◌≡◌, map, take}
use Rattle.class_exchange.specs.Pairs.{pair_sum}
use Rattle.class_exchange.specs.Unweighed.{uncurved_pair}
use Rattle.class_exchange.proofs.curvature.pair_weighings.Given as goal

abbrev pub invariant-loop-pair : goal.invariant-loop-pair
invariant-loop-pair l = l.weighings.items ≡ map (λ pair. (uncurved_pair l.params (pair_sum pair)).from) (take l.pair-index l.pairs)
