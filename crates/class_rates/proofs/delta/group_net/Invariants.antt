use Rattle.std.proofs.Common.{◌≡◌, take}
use Rattle.class_rates.specs.Weighing.{group_net}
use Rattle.class_rates.proofs.delta.group_net.Given as goal

abbrev pub invariant-loop-net : goal.invariant-loop-net
invariant-loop-net l = l.sum ≡ group_net (take l.net-index l.rates)
