-- The sizes of what is a concentration group by itself: nets beside thick thresholds, and vega risks.
use Rattle.std.proofs.Common.{◌≡◌, ◌^◌, ℕ, zero, suc, ◌+◌, ◌*◌, ◌/◌, ◌<◌, ◌≤◌, ap, ◌∙◌, ℤ, pos, negsuc, ◌*ℤ◌, ◌≤ℤ◌, unsigned_abs, FitsSigned, arith, mul-le-mul_left, mul-le-mul_right}
use Rattle.std.specs.Int.{w128}
use Rattle.std.proofs.lemmas.Int.{ints, unsigned_abs-mul, fits_signed_from_abs}
use Rattle.std.proofs.lemmas.Nat.{div-add-mod'}
use Rattle.simm_params.specs.MhUnits.Rounding.{away}
use Rattle.simm_params.proofs.MhUnits.Integers.{unsigned_abs-neg, product_size}
use Rattle.simm_params.specs.SimmRules.Risks.{Amount}
use Rattle.simm_params.specs.SimmRules.Concentration.{cr}
use Rattle.simm_params.specs.SimmRules.Bucket.{weighted_value}
use Rattle.simm_params.specs.Facts.{IsWeighed}
use Rattle.simm_params.specs.Ranges.{hvrs, sigmas, vega_weights, IsWithin}
use Rattle.weighted_bucket.specs.Group.{CanConcentrate}
use Rattle.measured_bucket.specs.Values.{AreTerms, IsSmall}
use Rattle.measured_bucket.specs.Alone.{weighed_alone}
use Rattle.measured_bucket.specs.Vega.{vega_alone, vega_risk}
use Rattle.measured_bucket.proofs.Columns.{IsClose}
use Rattle.measured_bucket.proofs.Thick.{net_thick, alone_size, cr_size, cr_low, cr_below, weighted_close}

-- ---- delta

-- a net that is small by its weight concentrates over a threshold that is thick beside it
pub alone_concentrates : (w t x : ℤ) → AreTerms w t → IsSmall w x → CanConcentrate x t
alone_concentrates w t x terms small = record {
  positive = terms.weighed.threshold_low;
  threshold_in_range = terms.weighed.threshold_high;
  net_in_range = net_thick x w t terms.weighed terms.some small;
}

-- and is close when it is weighed alone
pub alone_close : {A : Type 0} (weight : A → ℤ) (a : Amount A) (t : ℤ) → AreTerms (weight a.of) t → IsSmall (weight a.of) a.amount → IsClose (10 ^ 10) 346999999 1 weight a (weighed_alone (weight a.of) t a.amount)
alone_close weight a t terms small =
    let size = alone_size (weight a.of) t a.amount terms small in
    record {
      from_one = cr_low a.amount t;
      below = cr_below (cr a.amount t) size;
      close = omega (arith, weighted_close (weight a.of) a.amount (cr a.amount t) size);
    }

-- ---- roundings

-- away from zero it is less than one off
away_size_below : (a : ℤ) (b : ℕ) → 0 < b → unsigned_abs (away a (pos b)) * b < unsigned_abs a + b
away_size_below (pos zero) b h =
    let none : unsigned_abs (away (pos 0) (pos b)) * b ≡ 0 / b * b = ap (λ n. n * b) (unsigned_abs-neg (pos (0 / b))) in omega (arith, div-add-mod' 0 b)
away_size_below (pos (suc m)) b h = omega (arith, ints, div-add-mod' m b)
away_size_below (negsuc m) b h = omega (arith, ints, div-add-mod' m b)

-- ---- a vega risk

module _ (hvr sigma : ℤ) (ratio : IsWithin hvrs hvr) (net : ℤ) where
  product : unsigned_abs (hvr *ℤ sigma *ℤ net) ≡ unsigned_abs hvr * (unsigned_abs net * unsigned_abs sigma)
  product =
      let outer : unsigned_abs (hvr *ℤ sigma *ℤ net) ≡ unsigned_abs (hvr *ℤ sigma) * unsigned_abs net = unsigned_abs-mul (hvr *ℤ sigma) net in
      let inner : unsigned_abs (hvr *ℤ sigma) * unsigned_abs net ≡ (unsigned_abs hvr * unsigned_abs sigma) * unsigned_abs net = ap (λ n. n * unsigned_abs net) (unsigned_abs-mul hvr sigma) in
      outer ∙ inner ∙ omega arith

  ratio_size : unsigned_abs hvr ≤ 12000
  ratio_size = omega (arith, ints, ratio.low, ratio.high)

  -- it is at most 1.2 times the net times its volatility, and less than a cent
  risk_close : unsigned_abs (vega_risk hvr sigma net) * 10 ^ 8 < (unsigned_abs net * unsigned_abs sigma) * 12000 + 10 ^ 8
  risk_close = omega (arith, away_size_below (hvr *ℤ sigma *ℤ net) (10 ^ 8) (omega arith), product, mul-le-mul_right (unsigned_abs net * unsigned_abs sigma) ratio_size)

  risk_small : IsSmall sigma net → unsigned_abs (vega_risk hvr sigma net) ≤ 12 * 10 ^ 12
  risk_small h = omega (arith, risk_close, h)

  module _ (weight threshold : ℤ) (within : IsWithin vega_weights weight) (thick : IsWeighed (pos 10000) threshold) (small : IsSmall sigma net) where
    abbrev risk : ℤ
    risk = vega_risk hvr sigma net

    weight_size : unsigned_abs weight ≤ 20000
    weight_size = omega (arith, ints, within.low, within.high)

    -- over a threshold that is thick beside 1
    pub risk_concentrates : CanConcentrate (vega_risk hvr sigma net) threshold
    risk_concentrates = record {
      positive = thick.threshold_low;
      threshold_in_range = thick.threshold_high;
      net_in_range = omega (arith, ints, risk_small small, thick.thick (omega (arith, ints)), thick.threshold_low);
    }

    pub risk_weighs : unsigned_abs (vega_risk hvr sigma net) * unsigned_abs weight ≤ 10 ^ 28
    risk_weighs = omega (arith, risk_small small, mul-le-mul_left (unsigned_abs risk) weight_size)

    -- weighed alone, it is at most 1.2 times 2 times 347 times the net times its volatility, and 695 cents
    factor_size : unsigned_abs (cr (vega_risk hvr sigma net) threshold) ≤ 346999999
    factor_size = cr_size risk threshold thick.threshold_low risk_concentrates.net_in_range

    value_close : unsigned_abs (weighted_value weight (vega_risk hvr sigma net) (cr (vega_risk hvr sigma net) threshold)) * 10 ^ 10 ≤ unsigned_abs net * unsigned_abs sigma * 832799998 + 695 * 10 ^ 10
    value_close =
        omega (
          arith,
          risk_close,
          weighted_close weight risk (cr risk threshold) factor_size,
          mul-le-mul_left (unsigned_abs risk) weight_size,
        )

pub vega_close : {A : Type 0} (sigma : A → ℤ) (a : Amount A) (hvr weight threshold : ℤ) → IsWithin hvrs hvr → IsWithin vega_weights weight → IsWeighed (pos 10000) threshold → IsSmall (sigma a.of) a.amount
    → IsClose (10 ^ 10) 832799998 695 sigma a (vega_alone hvr (sigma a.of) weight threshold a.amount)
vega_close sigma a hvr weight threshold ratio within thick small = record {
  from_one = cr_low (vega_risk hvr (sigma a.of) a.amount) threshold;
  below = cr_below (cr (vega_risk hvr (sigma a.of) a.amount) threshold) (factor_size hvr (sigma a.of) ratio a.amount weight threshold within thick small);
  close = value_close hvr (sigma a.of) ratio a.amount weight threshold within thick small;
}

-- ---- it fits 128 bits

size_from_low : (z : ℤ) (n : ℕ) → pos 0 ≤ℤ z → z ≤ℤ pos n → unsigned_abs z ≤ n
size_from_low z n low high = omega (arith, ints)

module _ (hvr sigma : ℤ) (ratio : IsWithin hvrs hvr) (volatility : IsWithin sigmas sigma) where
  pair_size : unsigned_abs (hvr *ℤ sigma) ≤ 12000 * 10 ^ 7
  pair_size = product_size hvr sigma 12000 (10 ^ 7) (size_from_low hvr 12000 ratio.low ratio.high) (size_from_low sigma (10 ^ 7) volatility.low volatility.high)

  pub pair_fits : FitsSigned w128 (hvr *ℤ sigma)
  pair_fits = fits_signed_from_abs w128 (hvr *ℤ sigma) (omega (arith, pair_size))

  pub risk_fits : (net : ℤ) → unsigned_abs net ≤ 2 * 10 ^ 20 → FitsSigned w128 (hvr *ℤ sigma *ℤ net)
  risk_fits net h = fits_signed_from_abs w128 (hvr *ℤ sigma *ℤ net) (omega (arith, product_size (hvr *ℤ sigma) net (12000 * 10 ^ 7) (2 * 10 ^ 20) pair_size h))
