-- The margin over the buckets of a class.
-- (ISDA SIMM methodology, delta and vega margin: aggregation across buckets, and the residual bucket.)
use Rattle.std.specs.Prelude.{ℕ, List, count_by, Bool, true, false, not, ℤ, pos, ◌+ℤ◌, ◌*ℤ◌, if◌then◌else◌}
use Rattle.std.specs.Ordering.{is_lt}
use Rattle.std.specs.List.{filter}
use Rattle.simm_kinds.specs.declared.bucket.Bucket.{Bucket}
use Rattle.simm_kinds.specs.declared.bucket.Bucket.TheVariants as bucket
use Rattle.simm_kinds.specs.Order.{bucket_cmp, same_bucket}
use Rattle.simm_rules.specs.declared.values.BucketMargin.{BucketMargin}
use Rattle.simm_rules.specs.Lookups.{at_row, six}
use Rattle.simm_rules.specs.Sums.{total_by, total_by_pairs}
use Rattle.simm_rules.specs.Concentration.{one}
use Rattle.simm_rules.specs.Bucket.{root_of, combined}

-- a bucket with its value
pub record Part (A : Type 0) : Type 0 where
  pub at : A
  pub value : BucketMargin

-- the root of the sum of the squares of the buckets' margins and of gamma times both held sums, s, of all ordered pairs of
-- different buckets
abbrev pub outer : {A : Type 0} → (A → A → Bool) → (Part A → Part A → ℤ) → List (Part A) → ℤ
outer same gamma parts =
    root_of (one *ℤ total_by (λ b. (b.value).k *ℤ (b.value).k) parts
    +ℤ total_by_pairs (λ b c. if same b.at c.at then pos 0 else gamma b c *ℤ (b.value).s *ℤ (c.value).s) parts)

-- ---- numbered buckets and the residual one

abbrev pub is_residual : Bucket → Bool
is_residual (bucket.Number n) = false
is_residual bucket.Residual = true

abbrev pub numbered : List (Part Bucket) → List (Part Bucket)
numbered parts = filter (λ b. not (is_residual b.at)) parts

abbrev pub residual : List (Part Bucket) → List (Part Bucket)
residual parts = filter (λ b. is_residual b.at) parts

-- a bucket's place among those that the parameters list in order: how many come before it
abbrev pub place_among : List Bucket → Bucket → ℕ
place_among listed b = count_by (λ c. is_lt (bucket_cmp c b)) listed

-- the correlation of two numbered buckets, in millionths
abbrev pub gamma_among : List Bucket → List (List ℤ) → Part Bucket → Part Bucket → ℤ
gamma_among listed gamma b c = six (at_row gamma (place_among listed b.at) (place_among listed c.at))

-- for curvature
abbrev pub gamma_squared : List Bucket → List (List ℤ) → Part Bucket → Part Bucket → ℤ
gamma_squared listed gamma b c = combined (gamma_among listed gamma b c) (gamma_among listed gamma b c)

-- the margin over the numbered buckets, and the residual bucket's own, which diversifies with no other
abbrev pub margin_over : List Bucket → List (List ℤ) → List (Part Bucket) → ℤ
margin_over listed gamma parts =
    outer same_bucket (gamma_among listed gamma) (numbered parts) +ℤ total_by (λ b. (b.value).k) (residual parts)
