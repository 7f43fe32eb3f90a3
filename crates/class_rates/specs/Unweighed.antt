-- What the factors of a currency are weighed from.
-- (ISDA SIMM methodology, interest rate risk: weighted sensitivities, concentration, curvature
-- risk exposures.)
use Rattle.std.specs.Prelude.{List, ℕ, Some, None, not, ℤ, pos, ◌*ℤ◌, if◌then◌else◌}
use Rattle.std.specs.List.{filter}
use Rattle.measured_bucket.specs.SimmRules.Params.{Params}
use Rattle.measured_bucket.specs.SimmRules.Sums.{total_by}
use Rattle.measured_bucket.specs.SimmRules.Risks.{Rate as RuleRate}
use Rattle.measured_bucket.specs.SimmRules.Risks.{RateVolatility, Amount}
use Rattle.measured_bucket.specs.SimmRules.Curvature.{scale_of}
use Rattle.measured_bucket.specs.SimmRules.Rates.{RateIn, VolatilityIn, is_basis, rate_thresholds, rate_weight, tenor_of}
use Rattle.measured_bucket.specs.SimmParams.declared.category.CurveCategory.{CurveCategory}
use Rattle.measured_bucket.specs.declared.weighing.Group.{Group}
use Rattle.measured_bucket.specs.declared.weighing.Weighing.{Weighing}
use Rattle.measured_bucket.specs.Explained.{Unweighed, without_group}
use Rattle.class_rates.specs.declared.rates.RateNet.{RateNet}
use Rattle.class_rates.specs.declared.volatilities.VolatilityNet.{VolatilityNet}
use Rattle.class_rates.specs.Rates.{rule_rate}
use Rattle.class_rates.specs.Volatilities.{rule_volatility}
use Rattle.class_rates.specs.Weighing.{weight_in}

-- ---- delta

-- the concentration group of a currency: its curves and its inflation
abbrev pub rates_group : Params → List ℕ → List (Amount RateIn) → Group
rates_group p currency rates = record {
  net = total_by (λ a. a.amount) (filter (λ a. not (is_basis (a.of).rate)) rates);
  threshold = (rate_thresholds p currency).delta;
}

-- by weight and amount, and the group, in which the basis is not
abbrev pub rate_from : Group → RuleRate → ℤ → ℤ → Weighing
rate_from group r weight amount = record {
  amount = amount;
  group = if is_basis r then None else Some group;
  weight = record { 0 = weight };
}

abbrev pub unweighed_rate : Params → Group → Amount RateIn → Unweighed RuleRate
unweighed_rate p group a = record {
  of = (a.of).rate;
  from = rate_from group (a.of).rate (rate_weight p a.of) a.amount;
}

-- ---- vega: all volatilities of a currency are one group

abbrev pub volatilities_group : Params → List ℕ → List (Amount VolatilityIn) → Group
volatilities_group p currency volatilities = record {
  net = total_by (λ a. a.amount) volatilities;
  threshold = (rate_thresholds p currency).vega;
}

abbrev pub volatility_from : ℤ → Group → ℤ → Weighing
volatility_from vrw group amount = record {
  amount = amount;
  group = Some group;
  weight = record { 0 = vrw };
}

abbrev pub unweighed_volatility : Params → Group → Amount VolatilityIn → Unweighed RateVolatility
unweighed_volatility p group a = record {
  of = (a.of).volatility;
  from = volatility_from p.ir.vrw group a.amount;
}

-- ---- curvature: a net, as its tenor counts, at a volatility of 1

abbrev pub scaled_volatility : RateVolatility → ℤ → ℤ
scaled_volatility v net = scale_of (tenor_of v) *ℤ net

abbrev pub uncurved_volatility : Amount VolatilityIn → Unweighed RateVolatility
uncurved_volatility a = record {
  of = (a.of).volatility;
  from = without_group (pos 10000) (scaled_volatility (a.of).volatility a.amount);
}

-- ---- as the code has them

abbrev pub weighing_in : Params → CurveCategory → Group → RateNet → Weighing
weighing_in p category group n =
    rate_from group (rule_rate n.rate) (weight_in p category n.rate) n.net

abbrev pub scaled_net : VolatilityNet → ℤ
scaled_net n = scaled_volatility (rule_volatility n.volatility) n.net
