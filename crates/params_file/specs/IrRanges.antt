-- The ranges of the parameters of interest rates.
use Rattle.simm_params.specs.SimmRules.Params.{IrParams}
use Rattle.simm_params.specs.Ranges.{weights, correlations, vega_weights, ir_hvrs, IsWithin}
use Rattle.simm_params.specs.Matrix.{IsMatrix}
use Rattle.simm_params.specs.Thresholds.{AreThresholds}
use Rattle.params_file.specs.Groups.{AreGroups}
use Rattle.simm_params.specs.IrRanges.{AreCurves}

-- each number is in its range
pub record IsRangedIr (ir : IrParams) : Type 0 where
  pub curves : AreCurves ir.weights
  pub inflation_weight : IsWithin weights ir.inflation_weight
  pub basis_weight : IsWithin weights ir.basis_weight
  pub rho : IsMatrix 12 correlations ir.rho
  pub phi : IsWithin correlations ir.phi
  pub inflation_rho : IsWithin correlations ir.inflation_rho
  pub basis_rho : IsWithin correlations ir.basis_rho
  pub gamma : IsWithin correlations ir.gamma
  pub vrw : IsWithin vega_weights ir.vrw
  pub hvr : IsWithin ir_hvrs ir.hvr
  pub other : AreThresholds ir.other
  pub groups : AreGroups ir.groups
