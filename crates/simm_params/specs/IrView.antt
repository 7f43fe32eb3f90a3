-- The values of interest rate parameters.
use Rattle.std.specs.Prelude.{ℤ}
use Rattle.simm_rules.specs.Params.{CurveWeights, IrParams}
use Rattle.simm_params.specs.declared.ir.CurveWeights.{CurveWeights as HeldCurves}
use Rattle.simm_params.specs.declared.ir.FactorWeights.{FactorWeights}
use Rattle.simm_params.specs.declared.ir.FactorRhos.{FactorRhos}
use Rattle.simm_params.specs.declared.ir.VolatilityRates.{VolatilityRates}
use Rattle.simm_params.specs.declared.ir.IrParams.{IrParams as Held}
use Rattle.simm_params.specs.ThresholdView.{thresholds_view}

abbrev pub curves_view : HeldCurves → CurveWeights
curves_view w = record { regular = w.regular; low = w.low; high = w.high }

abbrev pub weights_view : FactorWeights → ℤ × ℤ
weights_view w = (w.inflation.0, w.basis.0)

abbrev pub rhos_view : FactorRhos → ℤ × ℤ × ℤ × ℤ
rhos_view r = (r.phi.0, r.inflation.0, r.basis.0, r.gamma.0)

abbrev pub volatility_view : VolatilityRates → ℤ × ℤ
volatility_view v = (v.vrw.0, v.hvr.0)

abbrev pub ir_view : Held → IrParams
ir_view ir = record {
  low = ir.low;
  regular = ir.regular;
  weights = curves_view ir.curves;
  inflation_weight = ir.weights.inflation.0;
  basis_weight = ir.weights.basis.0;
  rho = ir.tenor_rhos;
  phi = ir.rhos.phi.0;
  inflation_rho = ir.rhos.inflation.0;
  basis_rho = ir.rhos.basis.0;
  gamma = ir.rhos.gamma.0;
  vrw = ir.volatility.vrw.0;
  hvr = ir.volatility.hvr.0;
  other = thresholds_view ir.other;
  groups = ir.groups;
}
