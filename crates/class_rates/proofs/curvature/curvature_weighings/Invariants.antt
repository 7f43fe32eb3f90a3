use Rattle.std.proofs.Common.{◌≡◌, map, take, pos}
use Rattle.measured_bucket.specs.Explained.{without_group}
use Rattle.class_rates.specs.Unweighed.{scaled_net}
use Rattle.class_rates.proofs.curvature.curvature_weighings.Given as goal

abbrev pub invariant-loop-net : goal.invariant-loop-net
invariant-loop-net l = l.weighings.items ≡ map (λ n. without_group (pos 10000) (scaled_net n)) (take l.net-index l.volatilities)
