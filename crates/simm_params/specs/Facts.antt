-- What each parameter set keeps, and what follows at a key.
use Rattle.std.specs.Prelude.{◌^◌, ℤ, pos, ◌≤ℤ◌, ◌<ℤ◌}
use Rattle.std.specs.List.{All}
use Rattle.simm_rules.specs.Params.{Thresholds, IrParams, FxParams, CreditParams, PricedParams, Params}
use Rattle.simm_params.specs.declared.thresholds.ThresholdKind.TheVariants.{Delta, Vega}
use Rattle.simm_params.specs.Ranges.{weights, correlations, thresholds, sigmas, vega_weights, hvrs, ir_hvrs, lambda_bases, IsWithin, IsThick}
use Rattle.simm_params.specs.Matrix.{IsMatrix}
use Rattle.simm_params.specs.Symmetry.{IsSymmetric, AreMirrored}
use Rattle.simm_params.specs.Thickness.{AreThickPairs, credit_terms, priced_terms, AreThickBuckets}
use Rattle.simm_params.specs.IrRanges.{AreCurves}
use Rattle.simm_params.specs.FxRanges.{ArePairThresholds}
use Rattle.simm_params.specs.ClassRanges.{IsRangedCredit, IsRangedPriced}

-- ---- interest rates

-- a delta threshold is in its range, and thick beside each curve weight and the inflation weight
pub record IsIrThreshold (ir : IrParams) (threshold : ℤ) : Type 0 where
  pub range : IsWithin thresholds threshold
  pub thick_regular : All (λ w. IsThick w threshold) ir.weights.regular
  pub thick_low : All (λ w. IsThick w threshold) ir.weights.low
  pub thick_high : All (λ w. IsThick w threshold) ir.weights.high
  pub thick_inflation : IsThick ir.inflation_weight threshold

-- a vega threshold is in its range, and thick beside 1
pub record IsVegaThreshold (threshold : ℤ) : Type 0 where
  pub range : IsWithin thresholds threshold
  pub thick : IsThick (pos 10000) threshold

pub record AreIrThresholds (ir : IrParams) (t : Thresholds) : Type 0 where
  pub delta : IsIrThreshold ir t.delta
  pub vega : IsVegaThreshold t.vega

pub record IsIrParams (ir : IrParams) : Type 0 where
  pub curves : AreCurves ir.weights
  pub inflation_weight : IsWithin weights ir.inflation_weight
  pub basis_weight : IsWithin weights ir.basis_weight
  pub rho : IsMatrix 12 correlations ir.rho
  pub rho_mirrored : AreMirrored ir.rho
  pub phi : IsWithin correlations ir.phi
  pub inflation_rho : IsWithin correlations ir.inflation_rho
  pub basis_rho : IsWithin correlations ir.basis_rho
  pub gamma : IsWithin correlations ir.gamma
  pub vrw : IsWithin vega_weights ir.vrw
  pub hvr : IsWithin ir_hvrs ir.hvr
  pub other : AreIrThresholds ir ir.other
  pub groups : All (λ g. AreIrThresholds ir g.thresholds) ir.groups

-- ---- foreign exchange

-- a threshold in cents is in its range, and thick beside both weights
pub record IsFxThreshold (fx : FxParams) (threshold : ℤ) : Type 0 where
  pub range : IsWithin thresholds threshold
  pub thick_regular : IsThick fx.regular_weight threshold
  pub thick_high : IsThick fx.high_weight threshold

pub record IsFxParams (fx : FxParams) : Type 0 where
  pub regular_weight : IsWithin weights fx.regular_weight
  pub high_weight : IsWithin weights fx.high_weight
  pub regular_rho : IsWithin correlations fx.regular_rho
  pub mixed_rho : IsWithin correlations fx.mixed_rho
  pub high_rho : IsWithin correlations fx.high_rho
  pub first_threshold : IsFxThreshold fx fx.first_threshold
  pub second_threshold : IsFxThreshold fx fx.second_threshold
  pub third_threshold : IsFxThreshold fx fx.third_threshold
  pub vega_threshold : ArePairThresholds fx.vega_threshold
  pub vega_symmetric : IsSymmetric fx.vega_threshold
  pub vega_thick : AreThickPairs fx.vega_threshold
  pub regular_sigma : IsWithin sigmas fx.regular_sigma
  pub mixed_sigma : IsWithin sigmas fx.mixed_sigma
  pub high_sigma : IsWithin sigmas fx.high_sigma
  pub vrw : IsWithin vega_weights fx.vrw
  pub hvr : IsWithin hvrs fx.hvr
  pub vol_rho : IsWithin correlations fx.vol_rho

-- ---- the classes that have buckets

pub record IsCreditParams (c : CreditParams) : Type 0 where
  pub ranged : IsRangedCredit c
  pub gamma_mirrored : AreMirrored c.gamma
  pub delta_thick : AreThickBuckets Delta (credit_terms c)
  pub vega_thick : AreThickBuckets Vega (credit_terms c)

pub record IsPricedParams (c : PricedParams) : Type 0 where
  pub ranged : IsRangedPriced c
  pub gamma_mirrored : AreMirrored c.gamma
  pub delta_thick : AreThickBuckets Delta (priced_terms c)
  pub vega_thick : AreThickBuckets Vega (priced_terms c)

-- ---- all of them

-- Each rate and threshold is in its range, each matrix is of its size and symmetric, the diagonal of one of correlations is 1, the
-- buckets of a class stand in their order, and each threshold is thick.
pub record IsParams (p : Params) : Type 0 where
  pub lambda_base : IsWithin lambda_bases p.lambda_base
  pub psi : IsMatrix 6 correlations p.psi
  pub psi_mirrored : AreMirrored p.psi
  pub ir : IsIrParams p.ir
  pub fx : IsFxParams p.fx
  pub credit_q : IsCreditParams p.credit_q
  pub credit_nq : IsCreditParams p.credit_nq
  pub equity : IsPricedParams p.equity
  pub commodity : IsPricedParams p.commodity
  pub base_weight : IsWithin weights p.base_weight
  pub base_rho : IsWithin correlations p.base_rho

-- A key's weight and threshold: both are bounded, and a threshold is thick beside a weight that isn't 0.
pub record IsWeighed (weight threshold : ℤ) : Type 0 where
  pub weight_low : pos 0 ≤ℤ weight
  pub weight_high : weight ≤ℤ pos (10 ^ 8)
  pub threshold_low : pos 1 ≤ℤ threshold
  pub threshold_high : threshold ≤ℤ pos (10 ^ 15)
  pub thick : pos 0 <ℤ weight → IsThick weight threshold
