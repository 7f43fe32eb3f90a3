use Rattle.std.proofs.Common.{◌≡◌, ◌<◌, ◌-◌, map, take}
use Rattle.weighted_bucket.specs.Group.{at, group_factor, group_net}
use Rattle.weighted_bucket.proofs.group.group_cr.Given as goal

abbrev pub invariant-loop-place : goal.invariant-loop-place
invariant-loop-place l =
    (map (λ cr. cr.0) l.crs.items ≡ map (group_factor l.amounts) (take l.place l.amounts))
    × (0 < l.place → l.net ≡ group_net l.amounts (at l.amounts (l.place - 1)).group)
