-- Weights and thresholds of interest rates at a currency are those of the parameters, so they are bounded.
use Rattle.std.proofs.Common.{◌≡◌, ◌<◌, ℕ, Bool, true, false, cond, Option, Some, None, List, ℤ, pos, length, refl, arith}
use Rattle.std.specs.Prelude.{IfSome}
use Rattle.std.specs.List.{All, find}
use Rattle.std.proofs.lemmas.Int.{ints}
use Rattle.simm_rules.specs.SimmKinds.declared.kinds.Tenor.{Tenor}
use Rattle.simm_rules.specs.SimmKinds.declared.kinds.Tenor.TheVariants as tenor
use Rattle.simm_rules.specs.SimmKinds.Order.{tenor_place}
use Rattle.simm_rules.specs.Params.{CurrencyGroup, Params}
use Rattle.simm_rules.specs.Lookups.{is_listed, at_place}
use Rattle.simm_rules.specs.Risks.{Rate, Curve, Inflation, Basis}
use Rattle.simm_rules.specs.Rates.{is_basis, curve_weights, rate_weight, rate_thresholds}
use Rattle.simm_params.specs.Ranges.{weights, IsWithin, IsThick}
use Rattle.simm_params.specs.Matrix.{AreRates}
use Rattle.simm_params.specs.Facts.{AreIrThresholds, IsIrParams, IsVegaThreshold, IsWeighed}
use Rattle.simm_params.specs.Weighed.{AreRatesWeighed}
use Rattle.simm_params.proofs.Found.{find_holds}
use Rattle.simm_params.proofs.Weighed.{beside}

-- ---- the thresholds of a currency

of_found : (p : Params) (currency : List ℕ) (o : Option CurrencyGroup) → find (λ (g : CurrencyGroup). is_listed g.currencies currency) p.ir.groups ≡ o
    → IfSome o (λ g. AreIrThresholds p.ir g.thresholds) → AreIrThresholds p.ir p.ir.other → AreIrThresholds p.ir (rate_thresholds p currency)
of_found p currency None first held other = rw first other
of_found p currency (Some g) first held other = rw first held

thresholds_at : (p : Params) (currency : List ℕ) → IsIrParams p.ir → AreIrThresholds p.ir (rate_thresholds p currency)
thresholds_at p currency is =
    let test : CurrencyGroup → Bool = λ g. is_listed g.currencies currency in
    of_found p currency (find test p.ir.groups) refl (find_holds (λ (g : CurrencyGroup). AreIrThresholds p.ir g.thresholds) test p.ir.groups is.groups) is.other

pub beside_one : (t : ℤ) → IsVegaThreshold t → IsWeighed (pos 10000) t
beside_one t is = record {
  weight_low = omega (arith, ints);
  weight_high = omega (arith, ints);
  threshold_low = omega (arith, ints, is.range.low);
  threshold_high = is.range.high;
  thick = λ _. is.thick;
}

-- ---- the weight of a curve

pub tenor_low : (t : Tenor) → tenor_place t < 12
tenor_low tenor.W2 = omega arith
tenor_low tenor.M1 = omega arith
tenor_low tenor.M3 = omega arith
tenor_low tenor.M6 = omega arith
tenor_low tenor.Y1 = omega arith
tenor_low tenor.Y2 = omega arith
tenor_low tenor.Y3 = omega arith
tenor_low tenor.Y5 = omega arith
tenor_low tenor.Y10 = omega arith
tenor_low tenor.Y15 = omega arith
tenor_low tenor.Y20 = omega arith
tenor_low tenor.Y30 = omega arith

pub at_tenor : (P : ℤ → Type 0) (ws : List ℤ) (t : Tenor) → length ws ≡ 12 → All P ws → P (at_place ws (tenor_place t))
at_tenor P ws t full all = all (tenor_place t) (pos 0) (let low = tenor_low t in omega (arith, low, full))

-- what holds of each of three lists holds of the one that is chosen
chosen : (P : List ℤ → Type 0) (a b : Bool) (low regular high : List ℤ) → P low → P regular → P high → P (cond a low (cond b regular high))
chosen P true b low regular high p q r = p
chosen P false true low regular high p q r = q
chosen P false false low regular high p q r = r

curve_at : (p : Params) (currency : List ℕ) (P : List ℤ → Type 0) → P p.ir.weights.low → P p.ir.weights.regular → P p.ir.weights.high → P (curve_weights p currency)
curve_at p currency P a b c = chosen P (is_listed p.ir.low currency) (is_listed p.ir.regular currency) p.ir.weights.low p.ir.weights.regular p.ir.weights.high a b c

pub curve_within : (ws : List ℤ) (t : Tenor) → AreRates 12 weights ws → IsWithin weights (at_place ws (tenor_place t))
curve_within ws t are = at_tenor (IsWithin weights) ws t are.full are.within

weight_at : (p : Params) (currency : List ℕ) (rate : Rate) → IsIrParams p.ir → IsWithin weights (rate_weight p (record { currency = currency; rate = rate }))
weight_at p currency (Curve t s) is =
    curve_at p currency (λ ws. IsWithin weights (at_place ws (tenor_place t))) (curve_within p.ir.weights.low t is.curves.low) (curve_within p.ir.weights.regular t is.curves.regular) (curve_within p.ir.weights.high t is.curves.high)
weight_at p currency Inflation is = is.inflation_weight
weight_at p currency Basis is = is.basis_weight

delta_at : (p : Params) (currency : List ℕ) (rate : Rate) → is_basis rate ≡ false → IsIrParams p.ir
    → IsWeighed (rate_weight p (record { currency = currency; rate = rate })) (rate_thresholds p currency).delta
delta_at p currency (Curve t s) plain is =
    let T : ℤ = (rate_thresholds p currency).delta in
    let at = (thresholds_at p currency is).delta in
    let thick : (ws : List ℤ) → AreRates 12 weights ws → All (λ w. IsThick w T) ws → IsThick (at_place ws (tenor_place t)) T = λ ws are all. at_tenor (λ w. IsThick w T) ws t are.full all in
    beside (at_place (curve_weights p currency) (tenor_place t)) T (weight_at p currency (Curve t s) is) at.range
    (curve_at p currency (λ ws. IsThick (at_place ws (tenor_place t)) T) (thick p.ir.weights.low is.curves.low at.thick_low) (thick p.ir.weights.regular is.curves.regular at.thick_regular) (thick p.ir.weights.high is.curves.high at.thick_high))
delta_at p currency Inflation plain is =
    let at = (thresholds_at p currency is).delta in
    beside p.ir.inflation_weight (rate_thresholds p currency).delta is.inflation_weight at.range at.thick_inflation
delta_at p currency Basis plain is = absurd cc

pub rates_weighed : (p : Params) (currency : List ℕ) → IsIrParams p.ir → AreRatesWeighed p currency
rates_weighed p currency is = record {
  delta = λ rate plain. delta_at p currency rate plain is;
  weight = λ rate. weight_at p currency rate is;
  vega = beside_one (rate_thresholds p currency).vega (thresholds_at p currency is).vega;
}
