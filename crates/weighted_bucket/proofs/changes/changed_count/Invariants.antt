use Rattle.std.proofs.Common.{◌≡◌, ◌≤◌}
use Rattle.pair_sum.specs.Marked.{count_marked}
use Rattle.weighted_bucket.specs.Changed.{changed_at}
use Rattle.weighted_bucket.proofs.changes.changed_count.Given as goal

abbrev pub invariant-loop-place : goal.invariant-loop-place
invariant-loop-place l = (l.count ≡ count_marked (changed_at l.before l.after) l.place) × (l.count ≤ l.place)
