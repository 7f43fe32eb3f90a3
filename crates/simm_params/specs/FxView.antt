-- The values of foreign exchange parameters.
use Rattle.std.specs.Prelude.{List, [], ◌∷◌, ℤ}
use Rattle.simm_rules.specs.Params.{FxParams}
use Rattle.simm_params.specs.Fx.{row, Volatilities}
use Rattle.simm_params.specs.declared.fx.PairRates.{PairRates}
use Rattle.simm_params.specs.declared.fx.FxThresholds.{FxThresholds}
use Rattle.simm_params.specs.declared.fx.PairThresholds.{PairThresholds}
use Rattle.simm_params.specs.declared.fx.FxVolatilities.{FxVolatilities}
use Rattle.simm_params.specs.declared.fx.FxParams.{FxParams as Held}

abbrev pub rates_view : PairRates → ℤ × ℤ × ℤ
rates_view r = (r.regular.0, r.mixed.0, r.high.0)

abbrev pub thresholds_view : FxThresholds → ℤ × ℤ × ℤ
thresholds_view t = (t.first, t.second, t.third)

-- a row for each category
abbrev pub rows_view : PairThresholds → List (List ℤ)
rows_view t = row (thresholds_view t.first) ∷ row (thresholds_view t.second) ∷ row (thresholds_view t.third) ∷ []

abbrev pub volatilities_view : FxVolatilities → Volatilities
volatilities_view v = record {
  thresholds = rows_view v.thresholds;
  sigmas = rates_view v.sigmas;
  vrw = v.vrw.0;
  hvr = v.hvr.0;
  rho = v.rho.0;
}

abbrev pub fx_view : Held → FxParams
fx_view fx = record {
  high = fx.high;
  regular_weight = fx.weights.regular.0;
  high_weight = fx.weights.high.0;
  regular_rho = fx.rhos.regular.0;
  mixed_rho = fx.rhos.mixed.0;
  high_rho = fx.rhos.high.0;
  first = fx.first;
  second = fx.second;
  first_threshold = fx.thresholds.first;
  second_threshold = fx.thresholds.second;
  third_threshold = fx.thresholds.third;
  vega_threshold = rows_view fx.volatilities.thresholds;
  regular_sigma = fx.volatilities.sigmas.regular.0;
  mixed_sigma = fx.volatilities.sigmas.mixed.0;
  high_sigma = fx.volatilities.sigmas.high.0;
  vrw = fx.volatilities.vrw.0;
  hvr = fx.volatilities.hvr.0;
  vol_rho = fx.volatilities.rho.0;
}
