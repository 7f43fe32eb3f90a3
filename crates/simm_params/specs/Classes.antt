-- The buckets of credit, and those of equity and commodities.
use Rattle.simm_rules.specs.Params.{CreditBucket, PricedBucket}
use Rattle.simm_params.specs.Buckets.{ClassBucket}

abbrev pub credit_bucket : ClassBucket → CreditBucket
credit_bucket b = record { terms = b.terms; same = b.own }

abbrev pub priced_bucket : ClassBucket → PricedBucket
priced_bucket b = record { terms = b.terms; sigma = b.own }
