-- Weighted values, and what the factors of a bucket come to together.
-- (ISDA SIMM methodology, delta and vega margin: weighted sensitivities, and aggregation within a bucket.)
use Rattle.std.specs.Prelude.{◌^◌, List, Bool, ℤ, pos, ◌*ℤ◌, unsigned_abs, if◌then◌else◌}
use Rattle.simm_kinds.specs.MhUnits.Rounding.{up, away, trunc, root, clamp}
use Rattle.simm_rules.specs.declared.values.BucketMargin.{BucketMargin}
use Rattle.simm_rules.specs.Sums.{total_by, total_by_pairs}
use Rattle.simm_rules.specs.Concentration.{one, ratio}

-- a factor of a bucket: what it is, its weighted value in cents, and the concentration factor of its group
pub record Weighted (A : Type 0) : Type 0 where
  pub of : A
  pub w : ℤ
  pub cr : ℤ

-- a risk weight times an amount times a concentration factor, away from zero
abbrev pub weighted_value : ℤ → ℤ → ℤ → ℤ
weighted_value weight x cr = away (weight *ℤ x *ℤ cr) (pos (10 ^ 10))

-- the product of two correlations, towards zero
abbrev pub combined : ℤ → ℤ → ℤ
combined a b = trunc (a *ℤ b) one

-- The correlation of two factors, in millionths, is 1 of a factor with itself. Of two different ones it is, in delta and vega of
-- interest rates and in base correlation: the parameters' rho
abbrev pub plain : {A : Type 0} → (A → A → Bool) → (A → A → ℤ) → Weighted A → Weighted A → ℤ
plain same rho k l = if same k.of l.of then one else rho k.of l.of

-- in delta and vega of the other classes: rho times the ratio of both concentration factors
abbrev pub concentrated : {A : Type 0} → (A → A → Bool) → (A → A → ℤ) → Weighted A → Weighted A → ℤ
concentrated same rho k l = if same k.of l.of then one else combined (rho k.of l.of) (ratio k.cr l.cr)

-- in curvature: rho squared
abbrev pub squared : {A : Type 0} → (A → A → Bool) → (A → A → ℤ) → Weighted A → Weighted A → ℤ
squared same rho k l = if same k.of l.of then one else combined (rho k.of l.of) (rho k.of l.of)

-- the root of a sum of products of two amounts and a correlation in millionths
abbrev pub root_of : ℤ → ℤ
root_of q = root (up q one)

-- the sum over all ordered pairs of factors
abbrev pub pair_sum : {A : Type 0} → (Weighted A → Weighted A → ℤ) → List (Weighted A) → ℤ
pair_sum corr fs = total_by_pairs (λ k l. corr k l *ℤ k.w *ℤ l.w) fs

abbrev pub weighted_sum : {A : Type 0} → List (Weighted A) → ℤ
weighted_sum fs = total_by (λ k. k.w) fs

-- the value of the bucket of these factors; cr is the bucket's own concentration factor, which delta and vega of interest
-- rates alone have, and 1 elsewhere
abbrev pub bucket_value : {A : Type 0} → (Weighted A → Weighted A → ℤ) → ℤ → List (Weighted A) → BucketMargin
bucket_value corr cr fs = record {
  q = pair_sum corr fs;
  k = root_of (pair_sum corr fs);
  s = clamp (weighted_sum fs) (root_of (pair_sum corr fs));
  sum = weighted_sum fs;
  gross = total_by (λ k. pos (unsigned_abs k.w)) fs;
  cr = record { 0 = cr };
}
