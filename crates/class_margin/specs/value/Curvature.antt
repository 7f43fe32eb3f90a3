-- The curvature value of a bucket, of the volatilities of its place.
-- (ISDA SIMM methodology, curvature margin: aggregation within a bucket.)
use Rattle.std.specs.Prelude.{List, Option, Some, option_map, IsSomeAnd}
use Rattle.class_rates.specs.SimmKinds.declared.key.FactorKey.{FactorKey}
use Rattle.class_rates.specs.SimmRules.declared.values.BucketMargin.{BucketMargin}
use Rattle.class_rates.specs.SimmRules.Params.{Params}
use Rattle.class_rates.specs.SimmRules.Rates.{currency_curvature_value}
use Rattle.class_rates.specs.SimmRules.Credit.{credit_params, credit_curvature_value}
use Rattle.class_rates.specs.SimmRules.Priced.{priced_params, price_curvature_value}
use Rattle.class_rates.specs.SimmRules.ForeignExchange.{fx_sigma, fx_curvature_value}
use Rattle.class_rates.specs.SimmParams.ListedBuckets.{credit_bucket_of, priced_bucket_of}
use Rattle.class_rates.specs.FactorBook.declared.holding.Holding.{Holding}
use Rattle.class_rates.specs.MeasuredBucket.Values.{alone}
use Rattle.class_rates.specs.Volatilities.{volatilities_among}
use Rattle.class_credit.specs.Points.{point_nets}
use Rattle.class_priced.specs.Names.{volatility_nets}
use Rattle.class_exchange.specs.Pairs.{pair_nets}
use Rattle.class_margin.specs.curvature.Values.{IsSized}
use Rattle.class_rates.specs.FactorBook.declared.slot.Slot.{Slot}
use Rattle.class_rates.specs.FactorBook.declared.slot.Slot.TheVariants as slot

-- ---- none of a bucket that the file does not list

abbrev pub curvature_of : Params → Slot → List (FactorKey × Holding) → Option BucketMargin
curvature_of p (slot.Rates currency) its = Some (currency_curvature_value p (volatilities_among currency its))
curvature_of p (slot.Credit class at) its = option_map (λ b. credit_curvature_value b (point_nets its)) (credit_bucket_of (credit_params p class).buckets at)
curvature_of p (slot.Priced class at) its = option_map (λ b. price_curvature_value b (volatility_nets its)) (priced_bucket_of (priced_params p class).buckets at)
curvature_of p slot.Exchange its = Some (fx_curvature_value p (pair_nets its))

-- ---- the sizes of its value

abbrev pub IsCurvatureSized : Params → Slot → List (FactorKey × Holding) → BucketMargin → Type 0
IsCurvatureSized p (slot.Rates currency) its value = IsSized alone (volatilities_among currency its) value
IsCurvatureSized p (slot.Credit class at) its value = IsSomeAnd (credit_bucket_of (credit_params p class).buckets at) (λ b. IsSized alone (point_nets its) value)
IsCurvatureSized p (slot.Priced class at) its value = IsSomeAnd (priced_bucket_of (priced_params p class).buckets at) (λ b. IsSized (λ _. b.sigma) (volatility_nets its) value)
IsCurvatureSized p slot.Exchange its value = IsSized (λ v. fx_sigma p v.pair) (pair_nets its) value
