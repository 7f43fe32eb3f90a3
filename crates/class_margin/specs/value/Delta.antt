-- The delta value of a bucket, of the factors of its place.
-- (ISDA SIMM methodology, delta margin: aggregation within a bucket.)
use Rattle.std.specs.Prelude.{ℕ, List, length, Option, Some, option_map, IsSomeAnd}
use Rattle.class_rates.specs.SimmKinds.declared.key.FactorKey.{FactorKey}
use Rattle.class_rates.specs.SimmRules.declared.values.BucketMargin.{BucketMargin}
use Rattle.class_rates.specs.SimmRules.Params.{Params}
use Rattle.class_rates.specs.SimmRules.Rates.{currency_value}
use Rattle.class_rates.specs.SimmRules.Credit.{credit_params, credit_value}
use Rattle.class_rates.specs.SimmRules.Priced.{priced_params, price_value}
use Rattle.class_rates.specs.SimmRules.ForeignExchange.{fx_weight, fx_value}
use Rattle.class_rates.specs.SimmParams.ListedBuckets.{credit_bucket_of, priced_bucket_of}
use Rattle.class_rates.specs.FactorBook.declared.holding.Holding.{Holding}
use Rattle.class_rates.specs.Rates.{rates_among, AreRates}
use Rattle.class_credit.specs.Points.{point_nets, ArePoints}
use Rattle.class_priced.specs.Names.{name_nets, AreNames}
use Rattle.class_exchange.specs.Currencies.{risky_nets, AreRisky}
use Rattle.class_margin.specs.names_delta.Values.{IsSized}
use Rattle.class_margin.specs.rates_delta.Range.{IsPart}
use Rattle.class_rates.specs.FactorBook.declared.slot.Slot.{Slot}
use Rattle.class_rates.specs.FactorBook.declared.slot.Slot.TheVariants as slot

-- ---- none of a bucket that the file does not list

abbrev pub delta_of : Params → Slot → List (FactorKey × Holding) → Option BucketMargin
delta_of p (slot.Rates currency) its = Some (currency_value p currency (rates_among currency its))
delta_of p (slot.Credit class at) its = option_map (λ b. credit_value b (point_nets its)) (credit_bucket_of (credit_params p class).buckets at)
delta_of p (slot.Priced class at) its = option_map (λ b. price_value b (name_nets its)) (priced_bucket_of (priced_params p class).buckets at)
delta_of p slot.Exchange its = Some (fx_value p (risky_nets p its))

-- ---- a bucket whose factors can be measured

abbrev pub IsDeltaReady : Params → Slot → List (FactorKey × Holding) → Type 0
IsDeltaReady p (slot.Rates currency) its = AreRates p (rates_among currency its)
IsDeltaReady p (slot.Credit class at) its = IsSomeAnd (credit_bucket_of (credit_params p class).buckets at) (λ b. ArePoints (b.terms).weight (point_nets its))
IsDeltaReady p (slot.Priced class at) its = IsSomeAnd (priced_bucket_of (priced_params p class).buckets at) (λ b. AreNames (b.terms).weight (name_nets its))
IsDeltaReady p slot.Exchange its = AreRisky p (risky_nets p its)

-- ---- the sizes of its value

abbrev pub IsDeltaSized : Params → Slot → List (FactorKey × Holding) → BucketMargin → Type 0
IsDeltaSized p (slot.Rates currency) its value = IsPart value
IsDeltaSized p (slot.Credit class at) its value = IsSomeAnd (credit_bucket_of (credit_params p class).buckets at) (λ b. IsSized (λ _. (b.terms).weight) (point_nets its) value)
IsDeltaSized p (slot.Priced class at) its value = IsSomeAnd (priced_bucket_of (priced_params p class).buckets at) (λ b. IsSized (λ _. (b.terms).weight) (name_nets its) value)
IsDeltaSized p slot.Exchange its value = IsSized (fx_weight p) (risky_nets p its) value

-- ---- how many factors it has: the calculation currency is none

abbrev pub delta_count : Params → Slot → List (FactorKey × Holding) → ℕ
delta_count p (slot.Rates currency) its = length (rates_among currency its)
delta_count p (slot.Credit class at) its = length (point_nets its)
delta_count p (slot.Priced class at) its = length (name_nets its)
delta_count p slot.Exchange its = length (risky_nets p its)
