use Rattle.std.proofs.Common.{◌≡◌, ◌<◌, ◌-◌, map, take}
use Rattle.weighted_bucket.specs.Group.{at, group_net}
use Rattle.weighted_bucket.proofs.group.group_nets.Given as goal

abbrev pub invariant-loop-place : goal.invariant-loop-place
invariant-loop-place l =
    (l.nets.items ≡ map (λ amount. group_net l.amounts amount.group) (take l.place l.amounts))
    × (0 < l.place → l.net ≡ group_net l.amounts (at l.amounts (l.place - 1)).group)
