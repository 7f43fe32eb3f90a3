-- What the factors of a place come to, by what stands there.
-- (ISDA SIMM methodology, delta, vega and curvature margin: aggregation within a bucket; base correlation margin.)
use Rattle.std.specs.Prelude.{ℕ, List, length, Option, Some, option_map}
use Rattle.std.specs.Option.{option_and_then}
use Rattle.class_rates.specs.SimmKinds.declared.key.FactorKey.{FactorKey}
use Rattle.class_rates.specs.SimmRules.Params.{Params}
use Rattle.class_rates.specs.SimmRules.BaseCorrelation.{base_value}
use Rattle.class_rates.specs.FactorBook.declared.holding.Holding.{Holding}
use Rattle.class_rates.specs.FactorBook.declared.place.Stand.{Stand}
use Rattle.class_rates.specs.FactorBook.declared.place.Stand.TheVariants as stand
use Rattle.class_rates.specs.FactorBook.declared.slot.Slot.{Slot}
use Rattle.class_rates.specs.FactorBook.declared.value.PlaceValue.{PlaceValue}
use Rattle.class_rates.specs.FactorBook.declared.value.PlaceValue.TheVariants as value
use Rattle.class_rates.specs.FactorBook.declared.value.VolatilityMargins.{VolatilityMargins}
use Rattle.class_rates.specs.FactorBook.Places.{Lent}
use Rattle.class_credit.specs.Base.{index_nets, index_weight, AreIndices}
use Rattle.class_margin.specs.names_delta.Values.{IsSized}
use Rattle.class_margin.specs.value.Delta.{delta_of, delta_count, IsDeltaReady, IsDeltaSized}
use Rattle.class_margin.specs.value.Volatile.{volatile_count, IsVolatileReady}
use Rattle.class_margin.specs.value.Vega.{vega_of, IsVegaSized}
use Rattle.class_margin.specs.value.Curvature.{curvature_of, IsCurvatureSized}

-- ---- none of a bucket that the file does not list

abbrev pub volatility_of : Params → Slot → List (FactorKey × Holding) → Option VolatilityMargins
volatility_of p slot its =
    option_and_then (λ vega. option_map (λ curvature. record { vega = vega; curvature = curvature }) (curvature_of p slot its)) (vega_of p slot its)

abbrev pub value_of : Params → Stand → List (FactorKey × Holding) → Option PlaceValue
value_of p (stand.Delta slot) its = option_map (value.Delta slot) (delta_of p slot its)
value_of p stand.BaseCorrelation its = Some (value.BaseCorrelation (base_value p (index_nets its)))
value_of p (stand.Volatility slot) its = option_map (value.Volatility slot) (volatility_of p slot its)

abbrev pub place_value : Params → Lent → Option PlaceValue
place_value p lent = value_of p (lent.place).stand lent.factors

-- ---- a place whose factors can be measured

abbrev pub IsReady : Params → Stand → List (FactorKey × Holding) → Type 0
IsReady p (stand.Delta slot) its = IsDeltaReady p slot its
IsReady p stand.BaseCorrelation its = AreIndices p (index_nets its)
IsReady p (stand.Volatility slot) its = IsVolatileReady p slot its

abbrev pub IsMeasurable : Params → Lent → Type 0
IsMeasurable p lent = IsReady p (lent.place).stand lent.factors

-- ---- the sizes of its value, which is of what stands there

abbrev pub AreSizes : Params → List (FactorKey × Holding) → PlaceValue → Type 0
AreSizes p its (value.Delta slot delta) = IsDeltaSized p slot its delta
AreSizes p its (value.BaseCorrelation base) = IsSized (index_weight p) (index_nets its) base
AreSizes p its (value.Volatility slot values) = IsVegaSized p slot its values.vega × IsCurvatureSized p slot its values.curvature

abbrev pub IsPlaceSized : Params → Lent → PlaceValue → Type 0
IsPlaceSized p lent v = AreSizes p lent.factors v

-- ---- how many of the rule's factors it has

abbrev pub stand_count : Params → Stand → List (FactorKey × Holding) → ℕ
stand_count p (stand.Delta slot) its = delta_count p slot its
stand_count p stand.BaseCorrelation its = length (index_nets its)
stand_count p (stand.Volatility slot) its = volatile_count slot its

abbrev pub count_of : Params → Lent → ℕ
count_of p lent = stand_count p (lent.place).stand lent.factors
