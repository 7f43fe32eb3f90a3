use Rattle.std.proofs.Common.{◌≡◌, ◌+◌}
use Rattle.std.specs.Prelude.{sum_by}
use Rattle.kept_buckets.specs.Dirty.{dirty_at, dirty_in}
use Rattle.kept_buckets.proofs.kept.KeptBuckets.dirty_count.Given as goal

abbrev pub invariant-loop-lent : goal.invariant-loop-lent
invariant-loop-lent l = l.count + sum_by (λ lent. dirty_at l.self lent.place) l.lent-iterator ≡ dirty_in l.self l.factors
