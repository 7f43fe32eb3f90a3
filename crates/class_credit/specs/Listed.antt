-- What the file says of a bucket of credit.
-- (ISDA SIMM methodology, credit spread risk: the buckets.)
use Rattle.std.specs.Prelude.{Option}
use Rattle.measured_bucket.specs.SimmKinds.declared.bucket.Bucket.{Bucket}
use Rattle.measured_bucket.specs.SimmRules.Params.{Params, CreditBucket}
use Rattle.measured_bucket.specs.SimmRules.declared.classes.CreditClass.{CreditClass}
use Rattle.measured_bucket.specs.SimmRules.Credit.{credit_params}
use Rattle.measured_bucket.specs.SimmParams.ListedBuckets.{credit_bucket_of}

-- none where it does not list the bucket
abbrev pub bucket_of : Params → CreditClass → Bucket → Option CreditBucket
bucket_of p class at = credit_bucket_of (credit_params p class).buckets at
