-- The buckets of interest rates that have a volatility.
-- (ISDA SIMM methodology, vega margin: aggregation across buckets.)
use Rattle.std.specs.Prelude.{ℕ, ◌^◌, ◌≤◌, List, map, length, pos, ◌≤ℤ◌}
use Rattle.class_rates.specs.SimmRules.declared.values.BucketMargin.{BucketMargin}
use Rattle.class_rates.specs.SimmRules.Params.{Params}
use Rattle.class_rates.specs.SimmRules.Net.{Sensitivity}
use Rattle.class_rates.specs.SimmRules.Risks.{select}
use Rattle.class_rates.specs.SimmRules.Gross.{size_by}
use Rattle.class_rates.specs.SimmRules.Rates.{as_rate_volatility, volatilities_in, volatility_currencies, currency_vega_value}
use Rattle.class_margin.specs.volatilities.Ranges.{alone}

-- the buckets of the currencies of a product class that have a volatility
abbrev pub currency_buckets : Params → List Sensitivity → List (List ℕ × BucketMargin)
currency_buckets p ss = map (λ currency. (currency, currency_vega_value p currency (volatilities_in currency ss))) (volatility_currencies ss)

-- the volatilities of a product class of a book in range: how many there are in all and in each currency, and their size
pub record IsRateClass (ss : List Sensitivity) : Type 0 where
  pub few : length (select as_rate_volatility ss) ≤ 20000
  pub few_each : (currency : List ℕ) → length (volatilities_in currency ss) ≤ 2000
  pub small : size_by alone (select as_rate_volatility ss) ≤ℤ pos (10 ^ 17)
