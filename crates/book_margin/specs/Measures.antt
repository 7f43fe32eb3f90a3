-- The margins of the measures of a risk class in a product class, which add up to its margin.
-- (ISDA SIMM methodology, structure: the margin of a risk class is that of delta, of vega, of curvature and of base correlation.)
use Rattle.std.specs.Prelude.{ℕ, ◌≡◌, ◌*◌, ◌^◌, List, ℤ, pos, ◌+ℤ◌, ◌≤ℤ◌}
use Rattle.kept_buckets.specs.MhUnits.declared.quantities.Cents.{Cents}
use Rattle.kept_buckets.specs.SimmKinds.declared.kinds.ProductClass.{ProductClass}
use Rattle.kept_buckets.specs.SimmKinds.declared.kinds.RiskClass.{RiskClass}
use Rattle.kept_buckets.specs.SimmKinds.declared.kinds.Measure.{Measure}
use Rattle.kept_buckets.specs.SimmKinds.declared.kinds.Measure.TheVariants as measure
use Rattle.kept_buckets.specs.SimmKinds.declared.key.FactorKey.{FactorKey}
use Rattle.kept_buckets.specs.SimmRules.Params.{Params}
use Rattle.kept_buckets.specs.SimmRules.Net.{Sensitivity}
use Rattle.kept_buckets.specs.FactorBook.declared.holding.Holding.{Holding}
use Rattle.class_margin.specs.names_delta.Values.{nets_in}
use Rattle.class_margin.specs.volatility.Curvature.{class_curvature_of}
use Rattle.class_margin.specs.delta.Class.{class_delta_of}
use Rattle.class_margin.specs.volatility.Vega.{class_vega_of}
use Rattle.book_margin.specs.declared.measures.MeasureMargins.{MeasureMargins}
use Rattle.book_margin.specs.Classes.{base_of}

-- the margin of a measure, of the netted sensitivities of a product class
abbrev pub measure_margin : Params → List Sensitivity → RiskClass → Measure → ℤ
measure_margin p ss class measure.Delta = class_delta_of p ss class
measure_margin p ss class measure.Vega = class_vega_of p ss class
measure_margin p ss class measure.Curvature = class_curvature_of p ss class
measure_margin p ss class measure.BaseCorr = base_of p ss class

-- of the factors of a book
abbrev pub measure_at : Params → List (FactorKey × Holding) → ProductClass → RiskClass → Measure → ℤ
measure_at p factors product class measure = measure_margin p (nets_in product factors) class measure

abbrev pub measure_in : MeasureMargins → Measure → Cents
measure_in m measure.Delta = m.delta
measure_in m measure.Vega = m.vega
measure_in m measure.Curvature = m.curvature
measure_in m measure.BaseCorr = m.base

-- of each measure its own
abbrev pub AreMeasures : Params → List (FactorKey × Holding) → ProductClass → RiskClass → MeasureMargins → Type 0
AreMeasures p factors product class m = (measure : Measure) → (measure_in m measure).0 ≡ measure_at p factors product class measure

-- a margin of at most so many cents
pub record IsWithin (most : ℕ) (margin : ℤ) : Type 0 where
  pub low : pos 0 ≤ℤ margin
  pub size : margin ≤ℤ pos most

pub record AreWithin (m : MeasureMargins) : Type 0 where
  pub delta : IsWithin (84 * 10 ^ 14) m.delta.0
  pub vega : IsWithin (84 * 10 ^ 14) m.vega.0
  pub curvature : IsWithin (14 * 10 ^ 14) m.curvature.0
  pub base : IsWithin (10 ^ 14) m.base.0

abbrev pub measures_sum : MeasureMargins → ℤ
measures_sum m = m.delta.0 +ℤ m.vega.0 +ℤ m.curvature.0 +ℤ m.base.0
