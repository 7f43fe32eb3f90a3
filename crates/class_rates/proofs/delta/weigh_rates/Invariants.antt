use Rattle.std.proofs.Common.{◌≡◌, map, take}
use Rattle.class_rates.specs.Weighing.{weighed_in}
use Rattle.class_rates.proofs.delta.weigh_rates.Given as goal

abbrev pub invariant-loop-net : goal.invariant-loop-net
invariant-loop-net l = l.weighed.items ≡ map (weighed_in l.params l.category l.cr.0) (take l.net-index l.rates)
