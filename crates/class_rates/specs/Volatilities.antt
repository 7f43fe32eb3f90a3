-- The volatilities of a currency's rates and of its inflation: in which order they stand, which can be measured, how each is
-- weighed, and how the code has them.
-- (ISDA SIMM methodology, interest rate risk: vega and curvature.)
use Rattle.std.specs.Prelude.{ℕ, List, map, Option, Some, None, ℤ, pos, ◌*ℤ◌}
use Rattle.std.specs.declared.cmp.Ordering.{Ordering}
use Rattle.std.specs.Ordering.{nat_cmp, then_cmp, on}
use Rattle.std.specs.List.Sorted.{IsStrictlySortedBy}
use Rattle.measured_bucket.specs.SimmKinds.declared.key.FactorKey.{FactorKey}
use Rattle.measured_bucket.specs.SimmKinds.Order.{tenor_place}
use Rattle.measured_bucket.specs.SimmRules.Risks.{Risk, RateVolatility, Of_rates, Of_inflation, Amount, select}
use Rattle.measured_bucket.specs.SimmRules.Sums.{total_by}
use Rattle.measured_bucket.specs.SimmRules.Bucket.{weighted_value}
use Rattle.measured_bucket.specs.SimmRules.Curvature.{scale_of}
use Rattle.measured_bucket.specs.SimmRules.Rates.{VolatilityIn, as_rate_volatility, tenor_of}
use Rattle.measured_bucket.specs.FactorBook.declared.holding.Holding.{Holding}
use Rattle.measured_bucket.specs.FactorBook.Factors.{net_of}
use Rattle.measured_bucket.specs.WeightedBucket.declared.weighed.Weighed.{Weighed}
use Rattle.measured_bucket.specs.Risk.{curved_by}
use Rattle.measured_bucket.specs.Values.{alone, IsInRange}
use Rattle.class_rates.specs.declared.volatility.Volatility.{Volatility}
use Rattle.class_rates.specs.declared.volatility.Volatility.TheVariants as volatility
use Rattle.class_rates.specs.declared.volatilities.VolatilityNet.{VolatilityNet}

-- ---- of whatever currency

abbrev pub volatility_alone : Option VolatilityIn → Option RateVolatility
volatility_alone None = None
volatility_alone (Some v) = Some v.volatility

abbrev pub without_currency : Amount VolatilityIn → Amount RateVolatility
without_currency a = record { of = (a.of).volatility; amount = a.amount }

abbrev pub as_volatility_alone : Risk → Option RateVolatility
as_volatility_alone r = volatility_alone (as_rate_volatility r)

abbrev pub volatility_nets : List (FactorKey × Holding) → List (Amount RateVolatility)
volatility_nets factors = select as_volatility_alone (map net_of factors)

-- those of this currency, at its place
abbrev pub with_currency : List ℕ → Amount RateVolatility → Amount VolatilityIn
with_currency currency a = record {
  of = record { currency = currency; volatility = a.of };
  amount = a.amount;
}

abbrev pub volatilities_among : List ℕ → List (FactorKey × Holding) → List (Amount VolatilityIn)
volatilities_among currency its = map (with_currency currency) (volatility_nets its)

-- ---- their order: those of rates by tenor, then those of inflation

abbrev pub volatility_kind : RateVolatility → ℕ
volatility_kind (Of_rates tenor) = 0
volatility_kind (Of_inflation tenor) = 1

abbrev pub volatility_cmp : RateVolatility → RateVolatility → Ordering
volatility_cmp = then_cmp (on volatility_kind nat_cmp) (on (λ v. tenor_place (tenor_of v)) nat_cmp)

-- those that can be measured: different ones in order, in range
pub record AreVolatilities (volatilities : List (Amount VolatilityIn)) : Type 0 where
  pub ascends : IsStrictlySortedBy volatility_cmp (map (λ a. (a.of).volatility) volatilities)
  pub range : IsInRange alone volatilities

-- ---- as the code has them

abbrev pub rule_volatility : Volatility → RateVolatility
rule_volatility (volatility.Rates tenor) = Of_rates tenor
rule_volatility (volatility.Inflation tenor) = Of_inflation tenor

abbrev pub rule_net : VolatilityNet → Amount RateVolatility
rule_net n = record { of = rule_volatility n.volatility; amount = n.net }

-- of this currency
abbrev pub volatility_view : List ℕ → VolatilityNet → Amount VolatilityIn
volatility_view currency n = record { of = record { currency = currency; volatility = rule_volatility n.volatility }; amount = n.net }

abbrev pub volatilities_view : List ℕ → List VolatilityNet → List (Amount VolatilityIn)
volatilities_view currency nets = map (volatility_view currency) nets

-- ---- weighed

-- the net of the concentration group, which is all of them
abbrev pub group_net : List VolatilityNet → ℤ
group_net nets = total_by (λ n. n.net) nets

-- a net by a vega risk weight and the concentration factor of its currency
abbrev pub weighed_by : ℤ → ℤ → VolatilityNet → Weighed
weighed_by vrw cr n = record { w = weighted_value vrw n.net cr; cr = record { 0 = cr } }

-- the curvature risk of a net, by its tenor; the amount is already volatility times vega
abbrev pub curved_net : VolatilityNet → Weighed
curved_net n = curved_by (pos 10000) (scale_of (tenor_of (rule_volatility n.volatility)) *ℤ n.net)
