use Rattle.std.proofs.Common.{◌≡◌, map, take}
use Rattle.measured_bucket.specs.Values.{weighed_as}
use Rattle.class_exchange.specs.Pairs.{pair_sum, curved_sum}
use Rattle.class_exchange.proofs.curvature.curve_pairs.Given as goal

abbrev pub invariant-loop-pair : goal.invariant-loop-pair
invariant-loop-pair l = l.risks.items ≡ map (λ pair. weighed_as (curved_sum l.params (pair_sum pair))) (take l.pair-index l.pairs)
