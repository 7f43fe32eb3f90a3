-- What a list of buckets keeps beside it.
use Rattle.std.specs.Prelude.{◌≡◌, ℕ, List, slice_index_or, Option, None}
use Rattle.std.specs.List.{AllByRecursion}
use Rattle.simm_rules.specs.SimmKinds.declared.bucket.Bucket.{Bucket}
use Rattle.simm_params.specs.Buckets.{ClassBucket, IsBucket, AreInOrder, bucket_slot, place_of, ids_of}

-- each id is that of a bucket, the buckets stand in their order, and the index has in each bucket's slot its place in the list
pub record AreIndexed (buckets : List ClassBucket) (index : List (Option ℕ)) : Type 0 where
  pub ids : AllByRecursion IsBucket (ids_of buckets)
  pub in_order : AreInOrder (ids_of buckets)
  pub indexed : (id : Bucket) → IsBucket id → slice_index_or index (bucket_slot id) None ≡ place_of (ids_of buckets) id
