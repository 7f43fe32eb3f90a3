use Rattle.std.proofs.Common.{◌≡◌, take}
use Rattle.class_rates.specs.Volatilities.{group_net}
use Rattle.class_rates.proofs.vega.group_net.Given as goal

abbrev pub invariant-loop-net : goal.invariant-loop-net
invariant-loop-net l = l.sum ≡ group_net (take l.net-index l.volatilities)
