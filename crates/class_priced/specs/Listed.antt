-- What the file says of a bucket of equity or of commodities.
-- (ISDA SIMM methodology, equity and commodity risk: the buckets.)
use Rattle.std.specs.Prelude.{Option}
use Rattle.measured_bucket.specs.SimmKinds.declared.bucket.Bucket.{Bucket}
use Rattle.measured_bucket.specs.SimmRules.Params.{Params, PricedBucket}
use Rattle.measured_bucket.specs.SimmRules.declared.classes.PricedClass.{PricedClass}
use Rattle.measured_bucket.specs.SimmRules.Priced.{priced_params}
use Rattle.measured_bucket.specs.SimmParams.ListedBuckets.{priced_bucket_of}

-- none where it does not list the bucket
abbrev pub bucket_of : Params → PricedClass → Bucket → Option PricedBucket
bucket_of p class at = priced_bucket_of (priced_params p class).buckets at
