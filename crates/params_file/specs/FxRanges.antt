-- The ranges of the parameters of foreign exchange.
use Rattle.std.specs.Prelude.{ℤ}
use Rattle.simm_params.specs.SimmRules.Params.{FxParams}
use Rattle.simm_params.specs.TomlValues.declared.range.Range.{Range}
use Rattle.simm_params.specs.Fx.{Volatilities}
use Rattle.simm_params.specs.Ranges.{weights, correlations, thresholds, sigmas, vega_weights, hvrs, IsWithin}
use Rattle.simm_params.specs.FxRanges.{ArePairThresholds}

-- each of three is in the range
abbrev pub AreWithin : Range → ℤ × ℤ × ℤ → Type 0
AreWithin range rates = IsWithin range rates.0 × IsWithin range rates.1 × IsWithin range rates.2

pub record AreVolatilities (v : Volatilities) : Type 0 where
  pub thresholds : ArePairThresholds v.thresholds
  pub sigmas : AreWithin sigmas v.sigmas
  pub vrw : IsWithin vega_weights v.vrw
  pub hvr : IsWithin hvrs v.hvr
  pub rho : IsWithin correlations v.rho

-- each number is in its range
pub record IsRangedFx (fx : FxParams) : Type 0 where
  pub regular_weight : IsWithin weights fx.regular_weight
  pub high_weight : IsWithin weights fx.high_weight
  pub regular_rho : IsWithin correlations fx.regular_rho
  pub mixed_rho : IsWithin correlations fx.mixed_rho
  pub high_rho : IsWithin correlations fx.high_rho
  pub first_threshold : IsWithin thresholds fx.first_threshold
  pub second_threshold : IsWithin thresholds fx.second_threshold
  pub third_threshold : IsWithin thresholds fx.third_threshold
  pub vega_threshold : ArePairThresholds fx.vega_threshold
  pub regular_sigma : IsWithin sigmas fx.regular_sigma
  pub mixed_sigma : IsWithin sigmas fx.mixed_sigma
  pub high_sigma : IsWithin sigmas fx.high_sigma
  pub vrw : IsWithin vega_weights fx.vrw
  pub hvr : IsWithin hvrs fx.hvr
  pub vol_rho : IsWithin correlations fx.vol_rho
