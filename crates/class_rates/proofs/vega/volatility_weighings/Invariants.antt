use Rattle.std.proofs.Common.{◌≡◌, map, take}
use Rattle.class_rates.specs.Unweighed.{volatility_from}
use Rattle.class_rates.proofs.vega.volatility_weighings.Given as goal

abbrev pub invariant-loop-net : goal.invariant-loop-net
invariant-loop-net l = l.weighings.items ≡ map (λ n. volatility_from l.vrw.0 l.group n.net) (take l.net-index l.volatilities)
