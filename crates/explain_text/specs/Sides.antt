-- The lines of one side of a risk class: delta with base correlation, or volatility with vega and curvature.
use Rattle.std.specs.Prelude.{ℕ, List, [], ◌++◌, Option, is_some, Bool, if◌then◌else◌, ℤ}
use Rattle.std.specs.List.{flat_map, list_any}
use Rattle.measured_bucket.specs.SimmKinds.declared.kinds.Measure.{Measure}
use Rattle.measured_bucket.specs.SimmKinds.declared.kinds.Measure.TheVariants as measure
use Rattle.measured_bucket.specs.SimmKinds.declared.kinds.ProductClass.{ProductClass}
use Rattle.measured_bucket.specs.SimmKinds.declared.kinds.RiskClass.{RiskClass}
use Rattle.measured_bucket.specs.SimmKinds.declared.key.FactorKey.{FactorKey}
use Rattle.measured_bucket.specs.SimmRules.declared.values.BucketMargin.{BucketMargin}
use Rattle.measured_bucket.specs.SimmRules.Params.{Params}
use Rattle.bucket_cache.specs.FactorBook.declared.holding.Holding.{Holding}
use Rattle.bucket_cache.specs.FactorBook.declared.place.BookSide.{BookSide}
use Rattle.bucket_cache.specs.FactorBook.declared.place.BookSide.TheVariants as side
use Rattle.bucket_cache.specs.FactorBook.declared.place.Place.{Place}
use Rattle.bucket_cache.specs.FactorBook.declared.place.Stand.{Stand}
use Rattle.bucket_cache.specs.FactorBook.declared.place.Stand.TheVariants as stand
use Rattle.bucket_cache.specs.FactorBook.Places.{by_side, Lent}
use Rattle.class_credit.specs.Base.{index_nets}
use Rattle.explain_text.specs.Lines.{net_line, bucket_line, measure_line}
use Rattle.explain_text.specs.Factors.{lines_of, delta_lines, vega_lines, curvature_lines, index_lines}

-- what a place comes to in a measure, and nothing where it has not that measure
abbrev pub Values : Type 0
Values = Place → Measure → Option BucketMargin

-- each side has two measures, in this order
abbrev pub first_measure : BookSide → Measure
first_measure side.Delta = measure.Delta
first_measure side.Volatility = measure.Vega

abbrev pub second_measure : BookSide → Measure
second_measure side.Delta = measure.BaseCorr
second_measure side.Volatility = measure.Curvature

-- a place in a measure, where its value is there: its factors, and then that
abbrev pub value_lines : Values → Place → Measure → List ℕ → List ℕ
value_lines values place measure factors = lines_of (λ v. factors ++ bucket_line place measure v) (values place measure)

-- in each measure that it has, by what stands there
abbrev pub measured_lines : Params → Values → Lent → Stand → List ℕ
measured_lines p values lent (stand.Delta slot) =
    value_lines values lent.place measure.Delta (delta_lines p (lent.place).product lent.factors slot)
measured_lines p values lent stand.BaseCorrelation =
    value_lines values lent.place measure.BaseCorr (index_lines p (lent.place).product (index_nets lent.factors))
measured_lines p values lent (stand.Volatility slot) =
    value_lines values lent.place measure.Vega (vega_lines p (lent.place).product lent.factors slot)
    ++ value_lines values lent.place measure.Curvature (curvature_lines p (lent.place).product lent.factors slot)

-- a place: the nets of its keys, and then what they come to in each measure
abbrev pub place_lines : Params → Values → Lent → List ℕ
place_lines p values lent = flat_map net_line lent.factors ++ measured_lines p values lent (lent.place).stand

-- whether one of the places has the measure
abbrev pub has_measure : Values → Measure → List Lent → Bool
has_measure values measure places = list_any (λ lent. is_some (values lent.place measure)) places

-- the margin of a measure, where a place has it
abbrev pub margin_line : Values → (Measure → ℤ) → ProductClass → RiskClass → List Lent → Measure → List ℕ
margin_line values margins product class places measure =
    if has_measure values measure places then measure_line product class measure (margins measure) else []

-- the places that have a key, in their order, and then the margins of both measures
abbrev pub side_lines : Params → Values → (Measure → ℤ) → List (FactorKey × Holding) → ProductClass → RiskClass → BookSide → List ℕ
side_lines p values margins factors product class side =
    flat_map (place_lines p values) (by_side product class side factors)
    ++ margin_line values margins product class (by_side product class side factors) (first_measure side)
    ++ margin_line values margins product class (by_side product class side factors) (second_measure side)
