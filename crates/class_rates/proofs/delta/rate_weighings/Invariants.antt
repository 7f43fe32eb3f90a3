use Rattle.std.proofs.Common.{◌≡◌, map, take}
use Rattle.class_rates.specs.Unweighed.{weighing_in}
use Rattle.class_rates.proofs.delta.rate_weighings.Given as goal

abbrev pub invariant-loop-net : goal.invariant-loop-net
invariant-loop-net l = l.weighings.items ≡ map (weighing_in l.params l.category l.group) (take l.net-index l.rates)
