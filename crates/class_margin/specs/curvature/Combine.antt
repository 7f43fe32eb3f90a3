-- The curvature margin of a class over the values of its buckets.
-- (ISDA SIMM methodology, curvature margin: aggregation across buckets, the residual bucket, and the scale of interest rates.)
use Rattle.std.specs.Prelude.{ℕ, ◌^◌, ◌+◌, ◌*◌, ◌<◌, ◌≤◌, List, map, sum_by, ℤ, pos, ◌*ℤ◌, ◌≤ℤ◌, unsigned_abs}
use Rattle.std.specs.List.{AllByRecursion}
use Rattle.std.specs.List.Sorted.{IsStrictlySortedBy}
use Rattle.class_rates.specs.MhUnits.Rounding.{up}
use Rattle.class_rates.specs.SimmKinds.declared.bucket.Bucket.{Bucket}
use Rattle.class_rates.specs.SimmKinds.Order.{name_cmp, same_name, bucket_cmp}
use Rattle.class_rates.specs.SimmRules.declared.values.BucketMargin.{BucketMargin}
use Rattle.class_rates.specs.SimmRules.Params.{Params}
use Rattle.class_rates.specs.SimmRules.Lookups.{six}
use Rattle.class_rates.specs.SimmRules.Net.{Sensitivity}
use Rattle.class_rates.specs.SimmRules.Rates.{volatilities_in, volatility_currencies, currency_curvature_value}
use Rattle.class_rates.specs.SimmRules.Sums.{total_by}
use Rattle.class_rates.specs.SimmRules.Bucket.{combined}
use Rattle.class_rates.specs.SimmRules.Across.{outer}
use Rattle.class_rates.specs.SimmRules.Curvature.{curvature_part, curvature_over}
use Rattle.class_rates.specs.FactorBook.declared.slot.Slot.{Slot}
use Rattle.class_margin.specs.declared.listed.ClassBuckets.{ClassBuckets}
use Rattle.class_margin.specs.declared.listed.ClassBuckets.TheVariants as buckets
use Rattle.class_margin.specs.declared.listed.ListedClass.{ListedClass}
use Rattle.class_margin.specs.Parts.{as_parts, currency_parts, listed_parts}
use Rattle.class_margin.specs.names_delta.Combine.{listed_in, gamma_in, AreListed}

-- ---- interest rates: one part over all currencies

-- the correlation of two different currencies
abbrev pub gamma_across : Params → ℤ
gamma_across p = combined (six p.ir.gamma) (six p.ir.gamma)

abbrev pub over_currencies : Params → List (List ℕ × BucketMargin) → ℤ
over_currencies p parts = curvature_part p.lambda_base (as_parts parts) (outer same_name (λ b c. gamma_across p) (as_parts parts))

-- divided by the square of the historical volatility ratio, upwards
abbrev pub over_ratio : ℤ → ℤ → ℤ
over_ratio margin hvr = up (margin *ℤ pos (10 ^ 8)) (hvr *ℤ hvr)

-- ---- the classes of which the file lists buckets

abbrev pub over_listed : Params → ListedClass → List (Bucket × BucketMargin) → ℤ
over_listed p class parts = curvature_over p.lambda_base (listed_in p class) (gamma_in p class) (as_parts parts)

-- ---- foreign exchange: one part of the one bucket

abbrev pub over_single : Params → List (Slot × BucketMargin) → ℤ
over_single p parts = curvature_part p.lambda_base (as_parts parts) (total_by (λ part. (part.1).k) parts)

-- ---- by the buckets of the class

abbrev pub curvature_across : Params → ClassBuckets → List (Slot × BucketMargin) → ℤ
curvature_across p buckets.Currencies parts = over_ratio (over_currencies p (currency_parts parts)) p.ir.hvr
curvature_across p (buckets.Listed class) parts = over_listed p class (listed_parts parts)
curvature_across p buckets.Single parts = over_single p parts

-- ---- which parts have a margin

-- their margins and their gross sizes
abbrev pub margins_size : {A : Type 0} → List (A × BucketMargin) → ℕ
margins_size parts = sum_by (λ part. unsigned_abs (part.1).k) parts

abbrev pub gross_size : {A : Type 0} → List (A × BucketMargin) → ℕ
gross_size parts = sum_by (λ part. unsigned_abs (part.1).gross) parts

-- values from which every sum fits, and at most 1.4 * 10^15 cents come in all
pub record AreSized {A : Type 0} (parts : List (A × BucketMargin)) : Type 0 where
  pub not_negative : AllByRecursion (λ part. pos 0 ≤ℤ (part.1).k) parts
  pub held : AllByRecursion (λ part. unsigned_abs (part.1).s ≤ unsigned_abs (part.1).k) parts
  pub summed : AllByRecursion (λ part. pos (unsigned_abs (part.1).sum) ≤ℤ (part.1).gross) parts
  pub margins : margins_size parts < 84 * 10 ^ 14
  pub gross : gross_size parts < 84 * 10 ^ 14
  pub small : 25 * (gross_size parts + 10 * margins_size parts) ≤ 14 * 10 ^ 14

-- those of different currencies, in order
pub record AreCurrencyParts (parts : List (List ℕ × BucketMargin)) : Type 0 where
  pub ascends : IsStrictlySortedBy name_cmp (map (λ part. part.0) parts)
  pub sized : AreSized parts

-- those of different buckets that the file lists, in order
pub record AreListedParts (p : Params) (class : ListedClass) (parts : List (Bucket × BucketMargin)) : Type 0 where
  pub listed : AreListed (listed_in p class) parts
  pub ascends : IsStrictlySortedBy bucket_cmp (map (λ part. part.0) parts)
  pub sized : AreSized parts

abbrev pub AreParts : Params → ClassBuckets → List (Slot × BucketMargin) → Type 0
AreParts p buckets.Currencies parts = AreCurrencyParts (currency_parts parts)
AreParts p (buckets.Listed class) parts = AreListedParts p class (listed_parts parts)
AreParts p buckets.Single parts = AreSized parts

-- ---- the buckets of the currencies of a product class that have a volatility

abbrev pub currency_buckets : Params → List Sensitivity → List (List ℕ × BucketMargin)
currency_buckets p ss = map (λ currency. (currency, currency_curvature_value p (volatilities_in currency ss))) (volatility_currencies ss)
