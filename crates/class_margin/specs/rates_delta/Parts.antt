-- The buckets of a product class, which are its currencies, and the margin over them.
-- (ISDA SIMM methodology, delta margin: aggregation across buckets.)
use Rattle.std.specs.Prelude.{ℕ, ◌^◌, ◌*◌, ◌<◌, List, map, sum_by, ℤ, unsigned_abs}
use Rattle.std.specs.List.{All}
use Rattle.std.specs.List.Sorted.{IsStrictlySortedBy}
use Rattle.class_rates.specs.SimmKinds.Order.{name_cmp, same_name}
use Rattle.class_rates.specs.SimmRules.declared.values.BucketMargin.{BucketMargin}
use Rattle.class_rates.specs.SimmRules.Params.{Params}
use Rattle.class_rates.specs.SimmRules.Sums.{different}
use Rattle.class_rates.specs.SimmRules.Net.{Sensitivity}
use Rattle.class_rates.specs.SimmRules.Risks.{select}
use Rattle.class_rates.specs.SimmRules.Across.{outer}
use Rattle.class_rates.specs.SimmRules.Rates.{as_rate, rates_in, currency_value, across_currencies}
use Rattle.class_margin.specs.Parts.{as_parts}
use Rattle.class_margin.specs.rates_delta.Range.{IsPart}

-- the margin over buckets
abbrev pub margin_over : Params → List (List ℕ × BucketMargin) → ℤ
margin_over p buckets = outer same_name (across_currencies p) (as_parts buckets)

-- buckets whose margins can be joined: of different currencies in order, each in range, and their margins add up to less than
-- 8.4 * 10^15 cents
pub record AreParts (buckets : List (List ℕ × BucketMargin)) : Type 0 where
  pub ascend : IsStrictlySortedBy name_cmp (map (λ b. b.0) buckets)
  pub each : All (λ b. IsPart b.1) buckets
  pub small : sum_by (λ b. unsigned_abs (b.1).k) buckets < 84 * 10 ^ 14

-- the currencies of a product class that have a rate, in order
abbrev pub currencies_of : List Sensitivity → List (List ℕ)
currencies_of ss = different name_cmp (map (λ a. (a.of).currency) (select as_rate ss))

-- their buckets
abbrev pub buckets_of : Params → List Sensitivity → List (List ℕ × BucketMargin)
buckets_of p ss = map (λ currency. (currency, currency_value p currency (rates_in currency ss))) (currencies_of ss)
