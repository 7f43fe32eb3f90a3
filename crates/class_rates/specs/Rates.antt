-- The rates of a currency: in which order they stand, which can be measured, and how the code has them.
-- (ISDA SIMM methodology, interest rate risk: delta.)
use Rattle.std.specs.Prelude.{ℕ, List, map, Option, Some, None}
use Rattle.std.specs.declared.cmp.Ordering.{Ordering}
use Rattle.std.specs.Ordering.{nat_cmp, then_cmp, on}
use Rattle.std.specs.List.Sorted.{IsStrictlySortedBy}
use Rattle.measured_bucket.specs.SimmKinds.declared.key.FactorKey.{FactorKey}
use Rattle.measured_bucket.specs.SimmKinds.Order.{tenor_place, sub_place}
use Rattle.measured_bucket.specs.SimmRules.Params.{Params}
use Rattle.measured_bucket.specs.SimmRules.Risks.{Risk, Curve, Inflation, Basis, Amount, select}
use Rattle.measured_bucket.specs.SimmRules.Risks.{Rate as RuleRate}
use Rattle.measured_bucket.specs.SimmRules.Rates.{RateIn, as_rate, rate_weight}
use Rattle.measured_bucket.specs.FactorBook.declared.holding.Holding.{Holding}
use Rattle.measured_bucket.specs.FactorBook.Factors.{net_of}
use Rattle.measured_bucket.specs.Values.{IsInRange}
use Rattle.class_rates.specs.declared.rate.Rate.{Rate}
use Rattle.class_rates.specs.declared.rate.Rate.TheVariants as rate
use Rattle.class_rates.specs.declared.rates.RateNet.{RateNet}

-- ---- of whatever currency

abbrev pub rate_alone : Option RateIn → Option RuleRate
rate_alone None = None
rate_alone (Some r) = Some r.rate

abbrev pub as_rate_alone : Risk → Option RuleRate
as_rate_alone r = rate_alone (as_rate r)

abbrev pub rate_nets : List (FactorKey × Holding) → List (Amount RuleRate)
rate_nets factors = select as_rate_alone (map net_of factors)

-- those of this currency, at its place
abbrev pub with_currency : List ℕ → Amount RuleRate → Amount RateIn
with_currency currency a = record {
  of = record { currency = currency; rate = a.of };
  amount = a.amount;
}

abbrev pub rates_among : List ℕ → List (FactorKey × Holding) → List (Amount RateIn)
rates_among currency its = map (with_currency currency) (rate_nets its)

-- ---- their order: curves by tenor and sub-curve, then inflation, then the basis

abbrev pub rate_kind : RuleRate → ℕ
rate_kind (Curve tenor sub) = 0
rate_kind Inflation = 1
rate_kind Basis = 2

abbrev pub curve_tenor : RuleRate → ℕ
curve_tenor (Curve tenor sub) = tenor_place tenor
curve_tenor Inflation = 0
curve_tenor Basis = 0

abbrev pub curve_sub : RuleRate → ℕ
curve_sub (Curve tenor sub) = sub_place sub
curve_sub Inflation = 0
curve_sub Basis = 0

abbrev pub rate_cmp : RuleRate → RuleRate → Ordering
rate_cmp = then_cmp (on rate_kind nat_cmp) (then_cmp (on curve_tenor nat_cmp) (on curve_sub nat_cmp))

-- those that can be measured: different ones in order, in range
pub record AreRates (p : Params) (rates : List (Amount RateIn)) : Type 0 where
  pub ascends : IsStrictlySortedBy rate_cmp (map (λ a. (a.of).rate) rates)
  pub range : IsInRange (rate_weight p) rates

-- ---- as the code has them

abbrev pub rule_rate : Rate → RuleRate
rule_rate (rate.Curve tenor sub) = Curve tenor sub
rule_rate rate.Inflation = Inflation
rule_rate rate.Basis = Basis

abbrev pub rule_net : RateNet → Amount RuleRate
rule_net n = record { of = rule_rate n.rate; amount = n.net }

-- of this currency
abbrev pub rate_view : List ℕ → RateNet → Amount RateIn
rate_view currency n = record { of = record { currency = currency; rate = rule_rate n.rate }; amount = n.net }

abbrev pub rates_view : List ℕ → List RateNet → List (Amount RateIn)
rates_view currency nets = map (rate_view currency) nets
