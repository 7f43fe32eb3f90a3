use Rattle.std.proofs.Common.{◌≡◌, map, take}
use Rattle.class_rates.specs.Volatilities.{weighed_by}
use Rattle.class_rates.proofs.vega.weigh_volatilities.Given as goal

abbrev pub invariant-loop-net : goal.invariant-loop-net
invariant-loop-net l = l.weighed.items ≡ map (weighed_by l.vrw.0 l.cr.0) (take l.net-index l.volatilities)
