-- The vega value of a bucket, of the volatilities of its place.
-- (ISDA SIMM methodology, vega margin: aggregation within a bucket.)
use Rattle.std.specs.Prelude.{List, Option, Some, option_map, IsSomeAnd}
use Rattle.class_rates.specs.SimmKinds.declared.key.FactorKey.{FactorKey}
use Rattle.class_rates.specs.SimmRules.declared.values.BucketMargin.{BucketMargin}
use Rattle.class_rates.specs.SimmRules.Params.{Params}
use Rattle.class_rates.specs.SimmRules.Rates.{currency_vega_value}
use Rattle.class_rates.specs.SimmRules.Credit.{credit_params, credit_vega_value}
use Rattle.class_rates.specs.SimmRules.Priced.{priced_params, price_vega_value}
use Rattle.class_rates.specs.SimmRules.ForeignExchange.{fx_sigma, fx_vega_value}
use Rattle.class_rates.specs.SimmParams.ListedBuckets.{credit_bucket_of, priced_bucket_of}
use Rattle.class_rates.specs.FactorBook.declared.holding.Holding.{Holding}
use Rattle.class_rates.specs.MeasuredBucket.Values.{alone}
use Rattle.class_rates.specs.Volatilities.{volatilities_among}
use Rattle.class_credit.specs.Points.{point_nets}
use Rattle.class_priced.specs.Names.{volatility_nets}
use Rattle.class_exchange.specs.Pairs.{pair_nets}
use Rattle.class_margin.specs.vega.Values.{IsSized}
use Rattle.class_rates.specs.FactorBook.declared.slot.Slot.{Slot}
use Rattle.class_rates.specs.FactorBook.declared.slot.Slot.TheVariants as slot

-- ---- none of a bucket that the file does not list

abbrev pub vega_of : Params → Slot → List (FactorKey × Holding) → Option BucketMargin
vega_of p (slot.Rates currency) its = Some (currency_vega_value p currency (volatilities_among currency its))
vega_of p (slot.Credit class at) its = option_map (λ b. credit_vega_value b (point_nets its)) (credit_bucket_of (credit_params p class).buckets at)
vega_of p (slot.Priced class at) its = option_map (λ b. price_vega_value (priced_params p class).hvr b (volatility_nets its)) (priced_bucket_of (priced_params p class).buckets at)
vega_of p slot.Exchange its = Some (fx_vega_value p (pair_nets its))

-- ---- the sizes of its value

abbrev pub IsVegaSized : Params → Slot → List (FactorKey × Holding) → BucketMargin → Type 0
IsVegaSized p (slot.Rates currency) its value = IsSized alone (volatilities_among currency its) value
IsVegaSized p (slot.Credit class at) its value = IsSomeAnd (credit_bucket_of (credit_params p class).buckets at) (λ b. IsSized alone (point_nets its) value)
IsVegaSized p (slot.Priced class at) its value = IsSomeAnd (priced_bucket_of (priced_params p class).buckets at) (λ b. IsSized (λ _. b.sigma) (volatility_nets its) value)
IsVegaSized p slot.Exchange its value = IsSized (λ v. fx_sigma p v.pair) (pair_nets its) value
