use Rattle.std.proofs.Common.{◌≡◌, map, take}
use Rattle.class_rates.specs.Volatilities.{curved_net}
use Rattle.class_rates.proofs.curvature.curve_volatilities.Given as goal

abbrev pub invariant-loop-net : goal.invariant-loop-net
invariant-loop-net l = l.risks.items ≡ map curved_net (take l.net-index l.volatilities)
