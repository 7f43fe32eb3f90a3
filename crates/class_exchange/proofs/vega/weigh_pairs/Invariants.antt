use Rattle.std.proofs.Common.{◌≡◌, map, take}
use Rattle.measured_bucket.specs.Values.{weighed_as}
use Rattle.class_exchange.specs.Pairs.{pair_sum, vega_pair}
use Rattle.class_exchange.proofs.vega.weigh_pairs.Given as goal

abbrev pub invariant-loop-pair : goal.invariant-loop-pair
invariant-loop-pair l = l.weighed.items ≡ map (λ pair. weighed_as (vega_pair l.params (pair_sum pair))) (take l.pair-index l.pairs)
