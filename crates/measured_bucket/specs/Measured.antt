-- What the factors of a bucket come to, by whatever measures them.
-- (ISDA SIMM methodology, aggregation within a bucket.)
use Rattle.std.specs.Prelude.{ℕ, ◌≡◌, ◌≢◌, ◌*◌, ◌^◌, ◌<◌, ◌≤◌, List, length, slice_index_or, Bool, ◌==◌, ℤ, pos, ◌+ℤ◌, ◌*ℤ◌, ◌≤ℤ◌, ◌<ℤ◌, unsigned_abs}
use Rattle.simm_params.specs.SimmRules.declared.values.BucketMargin.{BucketMargin}
use Rattle.simm_params.specs.SimmRules.Risks.{Amount}
use Rattle.simm_params.specs.SimmRules.Concentration.{one}
use Rattle.simm_params.specs.SimmRules.Gross.{size_by}
use Rattle.simm_params.specs.SimmRules.Bucket.{Weighted, plain, concentrated, squared, bucket_value}
use Rattle.weighted_bucket.specs.declared.scaling.Scaling.{Scaling}
use Rattle.weighted_bucket.specs.declared.scaling.Scaling.TheVariants as scaling

-- the rule's value of weighted factors, by how concentrations count in a pair
abbrev pub value_by : {A : Type 0} → Scaling → (A → A → Bool) → (A → A → ℤ) → ℤ → List (Weighted A) → BucketMargin
value_by scaling.Concentrated same rho cr factors = bucket_value (concentrated same rho) cr factors
value_by scaling.Plain same rho cr factors = bucket_value (plain same rho) cr factors
value_by scaling.Squared same rho cr factors = bucket_value (squared same rho) cr factors

-- a table has the correlations of these factors, which are different
pub record AreCorrelated {A : Type 0} (same : A → A → Bool) (R : A → A → ℤ) (factors : List (Weighted A)) (rho : ℕ → ℕ → ℤ) : Type 0 where
  pub are : (i j : ℕ) (d : Weighted A) → i < length factors → j < length factors → i ≢ j → rho i j ≡ R (slice_index_or factors i d).of (slice_index_or factors j d).of
  pub tells : (i j : ℕ) (d : Weighted A) → i < length factors → j < length factors → same (slice_index_or factors i d).of (slice_index_or factors j d).of ≡ (i == j)

-- the sizes that each value of a bucket has
pub record IsSound (value : BucketMargin) : Type 0 where
  pub not_negative : pos 0 ≤ℤ value.k
  pub held : unsigned_abs value.s ≤ unsigned_abs value.k
  pub margin : unsigned_abs value.k ≤ unsigned_abs value.gross
  pub sum : unsigned_abs value.sum ≤ unsigned_abs value.gross
  pub positive : pos 0 ≤ℤ value.gross
  pub below : unsigned_abs value.gross < 84 * 10 ^ 14
  pub cr_low : one ≤ℤ value.cr.0
  pub cr_high : value.cr.0 <ℤ pos 347000000

-- A sum of weighted sizes, in cents: so many units of it are at most the weighted sizes of the amounts, so many times, and so many
-- cents for each amount.
abbrev pub IsNear : {A : Type 0} → ℕ → ℕ → ℕ → (A → ℤ) → List (Amount A) → ℕ → Type 0
IsNear unit times cents weight amounts gross =
    (pos gross *ℤ pos unit) ≤ℤ (size_by weight amounts *ℤ pos times +ℤ pos (length amounts) *ℤ pos (cents * unit))
