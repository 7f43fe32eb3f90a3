-- The parts of the margin of a class: the values of its buckets in a measure.
-- (ISDA SIMM methodology, structure of the methodology: buckets of the risk classes.)
use Rattle.std.specs.Prelude.{ℕ, ℤ, pos, List, map, slice_get, Option, Some, None, option_map, unwrap_or}
use Rattle.std.specs.List.{filter_map}
use Rattle.class_rates.specs.SimmKinds.declared.bucket.Bucket.{Bucket}
use Rattle.class_rates.specs.SimmRules.declared.values.BucketMargin.{BucketMargin}
use Rattle.class_rates.specs.SimmRules.Across.{Part}
use Rattle.class_rates.specs.FactorBook.declared.slot.Slot.{Slot}
use Rattle.class_rates.specs.FactorBook.declared.slot.Slot.TheVariants as slot
use Rattle.class_rates.specs.FactorBook.declared.value.PlaceValue.{PlaceValue}
use Rattle.class_rates.specs.FactorBook.declared.value.PlaceValue.TheVariants as value

-- ---- those of each measure among the values of places

abbrev pub delta_part : PlaceValue → Option (Slot × BucketMargin)
delta_part (value.Delta slot delta) = Some (slot, delta)
delta_part (value.BaseCorrelation base) = None
delta_part (value.Volatility slot values) = None

abbrev pub vega_part : PlaceValue → Option (Slot × BucketMargin)
vega_part (value.Delta slot delta) = None
vega_part (value.BaseCorrelation base) = None
vega_part (value.Volatility slot values) = Some (slot, values.vega)

abbrev pub curvature_part : PlaceValue → Option (Slot × BucketMargin)
curvature_part (value.Delta slot delta) = None
curvature_part (value.BaseCorrelation base) = None
curvature_part (value.Volatility slot values) = Some (slot, values.curvature)

abbrev pub base_part : PlaceValue → Option BucketMargin
base_part (value.Delta slot delta) = None
base_part (value.BaseCorrelation base) = Some base
base_part (value.Volatility slot values) = None

abbrev pub delta_parts : List PlaceValue → List (Slot × BucketMargin)
delta_parts values = filter_map delta_part values

abbrev pub vega_parts : List PlaceValue → List (Slot × BucketMargin)
vega_parts values = filter_map vega_part values

abbrev pub curvature_parts : List PlaceValue → List (Slot × BucketMargin)
curvature_parts values = filter_map curvature_part values

abbrev pub base_values : List PlaceValue → List BucketMargin
base_values values = filter_map base_part values

-- ---- those of currencies, and of buckets that files list

abbrev pub currency_of : Slot → Option (List ℕ)
currency_of (slot.Rates currency) = Some currency
currency_of (slot.Credit class at) = None
currency_of (slot.Priced class at) = None
currency_of slot.Exchange = None

abbrev pub listed_of : Slot → Option Bucket
listed_of (slot.Rates currency) = None
listed_of (slot.Credit class at) = Some at
listed_of (slot.Priced class at) = Some at
listed_of slot.Exchange = None

abbrev pub currency_part : Slot × BucketMargin → Option (List ℕ × BucketMargin)
currency_part part = option_map (λ currency. (currency, part.1)) (currency_of part.0)

abbrev pub listed_part : Slot × BucketMargin → Option (Bucket × BucketMargin)
listed_part part = option_map (λ at. (at, part.1)) (listed_of part.0)

abbrev pub currency_parts : List (Slot × BucketMargin) → List (List ℕ × BucketMargin)
currency_parts parts = filter_map currency_part parts

abbrev pub listed_parts : List (Slot × BucketMargin) → List (Bucket × BucketMargin)
listed_parts parts = filter_map listed_part parts

-- ---- as the rule joins them

abbrev pub as_parts : {A : Type 0} → List (A × BucketMargin) → List (Part A)
as_parts parts = map (λ part. record { at = part.0; value = part.1 }) parts

-- ---- the margin of the first, and 0 without one: of a class of one bucket, and of base correlation

abbrev pub single_k : {A : Type 0} → List (A × BucketMargin) → ℤ
single_k parts = unwrap_or (option_map (λ part. (part.1).k) (slice_get parts 0)) (pos 0)

abbrev pub first_k : List BucketMargin → ℤ
first_k values = unwrap_or (option_map (λ value. value.k) (slice_get values 0)) (pos 0)
