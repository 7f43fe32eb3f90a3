use Rattle.simm_params.proofs.BucketLists.{AreIndexed-nil}
use Rattle.simm_params.proofs.buckets.Buckets.with_capacity.Goals as goal

pub invariant_of-result : goal.invariant_of-result
invariant_of-result c = rw (c.no_places.ensures, c.in_ok-with_capacity.ensures.items) AreIndexed-nil
