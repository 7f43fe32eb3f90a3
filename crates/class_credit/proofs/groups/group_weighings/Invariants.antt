use Rattle.std.proofs.Common.{◌≡◌, map, take}
use Rattle.class_credit.specs.Unweighed.{weighing_in}
use Rattle.class_credit.proofs.groups.group_weighings.Given as goal

abbrev pub invariant-loop-place : goal.invariant-loop-place
invariant-loop-place l = l.weighings.items ≡ map (weighing_in l.weight.0 l.grouped) (take l.place l.grouped)
