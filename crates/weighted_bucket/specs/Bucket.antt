-- The value of a bucket.
-- (ISDA SIMM methodology, aggregation within a bucket.)
use Rattle.std.specs.Prelude.{ℕ, List, map, ℤ, pos, unsigned_abs}
use Rattle.concentration.specs.MhUnits.Rounding.{clamp}
use Rattle.concentration.specs.MhUnits.declared.quantities.Corr6.{Corr6}
use Rattle.concentration.specs.SimmRules.declared.values.BucketMargin.{BucketMargin}
use Rattle.concentration.specs.SimmRules.Bucket.{root_of}
use Rattle.concentration.specs.SimmRules.Sums.{total_by}
use Rattle.pair_sum.specs.PairTotal.{pair_total}
use Rattle.weighted_bucket.specs.declared.scaling.Scaling.{Scaling}
use Rattle.weighted_bucket.specs.declared.weighed.Weighed.{Weighed}
use Rattle.weighted_bucket.specs.Correlated.{correlation}

-- the sum over all ordered pairs of factors of their correlation and both weighted values
abbrev pub pairs_of : Scaling → List Weighed → (ℕ → ℕ → ℤ) → ℤ
pairs_of way factors rho = pair_total (correlation way factors rho) (map (λ factor. factor.w) factors)

abbrev pub sum_of : List Weighed → ℤ
sum_of factors = total_by (λ factor. factor.w) factors

abbrev pub gross_of : List Weighed → ℤ
gross_of factors = total_by (λ factor. pos (unsigned_abs factor.w)) factors

-- the value of factors whose pairs come to q
abbrev pub value_of : ℤ → List Weighed → Corr6 → BucketMargin
value_of q factors cr = record {
  q = q;
  k = root_of q;
  s = clamp (sum_of factors) (root_of q);
  sum = sum_of factors;
  gross = gross_of factors;
  cr = cr;
}

abbrev pub bucket_value : Scaling → List Weighed → (ℕ → ℕ → ℤ) → Corr6 → BucketMargin
bucket_value way factors rho cr = value_of (pairs_of way factors rho) factors cr
