-- The margin of a class of which the file lists buckets over the values of these.
-- (ISDA SIMM methodology, delta margin: aggregation across buckets, and the residual bucket.)
use Rattle.std.specs.Prelude.{ℕ, ◌≡◌, ◌^◌, ◌*◌, ◌<◌, ◌≤◌, List, map, slice_index_or, sum_by, true, Option, Some, None, ℤ, pos, ◌≤ℤ◌, unsigned_abs}
use Rattle.std.specs.List.{AllByRecursion}
use Rattle.std.specs.List.Sorted.{IsStrictlySortedBy}
use Rattle.class_rates.specs.SimmKinds.declared.bucket.Bucket.{Bucket}
use Rattle.class_rates.specs.SimmKinds.declared.bucket.Bucket.TheVariants as bucket
use Rattle.class_rates.specs.SimmKinds.Order.{bucket_cmp}
use Rattle.class_rates.specs.SimmRules.declared.values.BucketMargin.{BucketMargin}
use Rattle.class_rates.specs.SimmRules.Params.{Params}
use Rattle.class_rates.specs.SimmRules.Lookups.{at_row, six}
use Rattle.class_rates.specs.SimmRules.Sums.{total_by}
use Rattle.class_rates.specs.SimmRules.Across.{Part, residual, place_among, margin_over}
use Rattle.class_rates.specs.SimmRules.Admits.{lists}
use Rattle.class_rates.specs.SimmRules.Credit.{credit_params, listed_credit}
use Rattle.class_rates.specs.SimmRules.Priced.{priced_params, listed_priced}
use Rattle.class_margin.specs.declared.listed.ListedClass.{ListedClass}
use Rattle.class_margin.specs.declared.listed.ListedClass.TheVariants as its_class
use Rattle.class_margin.specs.Parts.{as_parts}

-- ---- what the file says of the class

abbrev pub listed_in : Params → ListedClass → List Bucket
listed_in p (its_class.Credit class) = listed_credit (credit_params p class)
listed_in p (its_class.Priced class) = listed_priced (priced_params p class)

abbrev pub gamma_in : Params → ListedClass → List (List ℤ)
gamma_in p (its_class.Credit class) = (credit_params p class).gamma
gamma_in p (its_class.Priced class) = (priced_params p class).gamma

-- the correlation of the buckets at two places of a list, each by its place among those that the file lists, in millionths
abbrev pub gamma_at : List (List ℤ) → List ℕ → ℕ → ℕ → ℤ
gamma_at gamma places i j = six (at_row gamma (slice_index_or places i 0) (slice_index_or places j 0))

-- ---- its parts

abbrev pub margins_of : List (Part Bucket) → List BucketMargin
margins_of parts = map (λ part. part.value) parts

abbrev pub places_of : List Bucket → List (Part Bucket) → List ℕ
places_of listed parts = map (λ part. place_among listed part.at) parts

-- the place of a numbered bucket among those that the file lists
abbrev pub number_place : List Bucket → Bucket → Option ℕ
number_place listed (bucket.Number n) = Some (place_among listed (bucket.Number n))
number_place listed bucket.Residual = None

abbrev pub residual_k : List (Part Bucket) → ℤ
residual_k parts = total_by (λ part. (part.value).k) (residual parts)

abbrev pub named_margin : Params → ListedClass → List (Bucket × BucketMargin) → ℤ
named_margin p class parts = margin_over (listed_in p class) (gamma_in p class) (as_parts parts)

-- ---- which parts have a margin

-- each is of a bucket that the file lists
abbrev pub AreListed : List Bucket → List (Bucket × BucketMargin) → Type 0
AreListed listed parts = AllByRecursion (λ part. lists listed part.0 ≡ true) parts

-- the sizes of the values, which are those of different buckets in order
pub record AreSized (parts : List (Bucket × BucketMargin)) : Type 0 where
  pub ascends : IsStrictlySortedBy bucket_cmp (map (λ part. part.0) parts)
  pub not_negative : AllByRecursion (λ part. pos 0 ≤ℤ (part.1).k) parts
  pub held : AllByRecursion (λ part. unsigned_abs (part.1).s ≤ unsigned_abs (part.1).k) parts
  pub in_range : sum_by (λ part. unsigned_abs (part.1).k) parts < 84 * 10 ^ 14
