-- What the factors of a place come to, measure by measure.
use Rattle.std.specs.Prelude.{ℕ, Option, Some, None}
use Rattle.simm_rules.specs.SimmKinds.declared.kinds.Measure.{Measure}
use Rattle.simm_rules.specs.SimmKinds.declared.kinds.Measure.TheVariants as measure
use Rattle.simm_rules.specs.declared.values.BucketMargin.{BucketMargin}
use Rattle.factor_book.specs.declared.place.Stand.{Stand}
use Rattle.factor_book.specs.declared.place.Stand.TheVariants as stand
use Rattle.factor_book.specs.declared.value.PlaceValue.{PlaceValue}
use Rattle.factor_book.specs.declared.value.PlaceValue.TheVariants as value

-- the value in a measure: a bucket has delta, or vega and curvature; base correlation has that measure alone
abbrev pub part_in : Measure → PlaceValue → Option BucketMargin
part_in measure.Delta (value.Delta slot delta) = Some delta
part_in measure.Delta (value.BaseCorrelation base) = None
part_in measure.Delta (value.Volatility slot values) = None
part_in measure.Vega (value.Delta slot delta) = None
part_in measure.Vega (value.BaseCorrelation base) = None
part_in measure.Vega (value.Volatility slot values) = Some values.vega
part_in measure.Curvature (value.Delta slot delta) = None
part_in measure.Curvature (value.BaseCorrelation base) = None
part_in measure.Curvature (value.Volatility slot values) = Some values.curvature
part_in measure.BaseCorr (value.Delta slot delta) = None
part_in measure.BaseCorr (value.BaseCorrelation base) = Some base
part_in measure.BaseCorr (value.Volatility slot values) = None

-- how many values there are: vega and curvature are two
abbrev pub measures_of : Stand → ℕ
measures_of (stand.Delta slot) = 1
measures_of stand.BaseCorrelation = 1
measures_of (stand.Volatility slot) = 2
