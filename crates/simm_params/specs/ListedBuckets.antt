-- The buckets that a class lists, by their ids and by their places.
use Rattle.std.specs.Prelude.{ℕ, List, Option, Some, None, if◌then◌else◌}
use Rattle.std.specs.List.{find}
use Rattle.simm_rules.specs.SimmKinds.declared.bucket.Bucket.{Bucket}
use Rattle.simm_rules.specs.SimmKinds.Order.{same_bucket}
use Rattle.simm_rules.specs.Params.{CreditBucket, PricedBucket}
use Rattle.simm_rules.specs.Across.{place_among}
use Rattle.simm_rules.specs.Admits.{lists}
use Rattle.simm_params.specs.declared.classes.CreditBucket.{CreditBucket as HeldCredit}
use Rattle.simm_params.specs.declared.classes.PricedBucket.{PricedBucket as HeldPriced}
use Rattle.simm_params.specs.BucketView.{terms_view}

abbrev pub credit_bucket_view : HeldCredit → CreditBucket
credit_bucket_view b = record { terms = terms_view b.terms; same = b.same.0 }

abbrev pub priced_bucket_view : HeldPriced → PricedBucket
priced_bucket_view b = record { terms = terms_view b.terms; sigma = b.sigma.0 }

-- the bucket of an id, where it is listed
abbrev pub credit_bucket_of : List CreditBucket → Bucket → Option CreditBucket
credit_bucket_of buckets id = find (λ b. same_bucket id b.terms.id) buckets

abbrev pub priced_bucket_of : List PricedBucket → Bucket → Option PricedBucket
priced_bucket_of buckets id = find (λ b. same_bucket id b.terms.id) buckets

-- its place, counted from 0, where it is listed
abbrev pub listed_place : List Bucket → Bucket → Option ℕ
listed_place listed id = if lists listed id then Some (place_among listed id) else None
