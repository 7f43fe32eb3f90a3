use Rattle.std.proofs.Common.{◌≡◌}
use Rattle.weighted_bucket.specs.Group.{at}
use Rattle.weighted_bucket.proofs.Groups.{net_before}
use Rattle.weighted_bucket.proofs.group.net_from.Given as goal

abbrev pub invariant-loop-place : goal.invariant-loop-place
invariant-loop-place l = l.net ≡ net_before l.amounts (at l.amounts l.start).group l.place
