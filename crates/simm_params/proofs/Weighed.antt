-- Weights and thresholds at a currency are those of the parameters, so they are bounded.
use Rattle.std.proofs.Common.{ℕ, ◌^◌, Bool, true, false, cond, List, ℤ, pos, ◌≤ℤ◌, arith}
use Rattle.std.proofs.lemmas.Int.{ints}
use Rattle.simm_rules.specs.SimmKinds.Order.{same_name}
use Rattle.simm_rules.specs.Params.{Params}
use Rattle.simm_rules.specs.Lookups.{is_listed}
use Rattle.simm_rules.specs.ForeignExchange.{is_high, fx_weight, fx_threshold}
use Rattle.simm_params.specs.Ranges.{weights, thresholds, IsWithin, IsThick}
use Rattle.simm_params.specs.Facts.{IsFxThreshold, IsFxParams, IsWeighed}

-- what holds of both holds of the one that is chosen
chosen : (P : ℤ → Type 0) (b : Bool) (x y : ℤ) → P x → P y → P (cond b x y)
chosen P true x y p q = p
chosen P false x y p q = q

fx_threshold-is : (p : Params) (currency : List ℕ) → IsFxParams p.fx → IsFxThreshold p.fx (fx_threshold p currency)
fx_threshold-is p currency h =
    chosen (IsFxThreshold p.fx) (is_listed p.fx.first currency) p.fx.first_threshold _ h.first_threshold
    (chosen (IsFxThreshold p.fx) (is_listed p.fx.second currency) p.fx.second_threshold p.fx.third_threshold h.second_threshold h.third_threshold)

pub beside : (w t : ℤ) → IsWithin weights w → IsWithin thresholds t → IsThick w t → IsWeighed w t
beside w t p q thick = record {
  weight_low = omega (arith, ints, p.low);
  weight_high = p.high;
  threshold_low = omega (arith, ints, q.low);
  threshold_high = q.high;
  thick = λ _. thick;
}

weightless : (t : ℤ) → pos 1 ≤ℤ t → t ≤ℤ pos (10 ^ 15) → IsWeighed (pos 0) t
weightless t low high = record {
  weight_low = omega (arith, ints);
  weight_high = omega (arith, ints);
  threshold_low = low;
  threshold_high = high;
  thick = λ h. absurd (omega (arith, ints, h));
}

pub weighed : (p : Params) (currency : List ℕ) → IsFxParams p.fx → IsWeighed (fx_weight p currency) (fx_threshold p currency)
weighed p currency h =
    let t = fx_threshold p currency in
    let is : IsFxThreshold p.fx t = fx_threshold-is p currency h in
    chosen (λ w. IsWeighed w t) (same_name currency p.calculation_currency) (pos 0) _ (weightless t (omega (arith, ints, is.range.low)) is.range.high)
    (chosen (λ w. IsWeighed w t) (is_high p currency) p.fx.high_weight p.fx.regular_weight (beside p.fx.high_weight t h.high_weight is.range is.thick_high) (beside p.fx.regular_weight t h.regular_weight is.range is.thick_regular))
