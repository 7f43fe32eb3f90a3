use Rattle.std.proofs.Common.{◌≡◌, map, take}
use Rattle.class_credit.specs.Groups.{weighed_in}
use Rattle.class_credit.proofs.groups.weigh_points.Given as goal

abbrev pub invariant-loop-place : goal.invariant-loop-place
invariant-loop-place l = l.weighed.items ≡ map (weighed_in l.weight.0 l.grouped) (take l.place l.grouped)
