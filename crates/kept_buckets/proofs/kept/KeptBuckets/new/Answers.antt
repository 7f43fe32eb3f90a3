use Rattle.kept_buckets.proofs.Filed.{none_filed}
use Rattle.kept_buckets.proofs.kept.KeptBuckets.new.Goals as goal

pub invariant_of-result : goal.invariant_of-result
invariant_of-result c = none_filed c.new.result.entries c.new.ensures.empty
