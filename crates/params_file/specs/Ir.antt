-- The table of interest rates: its tests in order.
use Rattle.std.specs.Prelude.{ℕ, List, [], ◌∷◌, Result, Ok, ℤ, codes}
use Rattle.toml.specs.Data.{Members, get_member}
use Rattle.simm_params.specs.SimmRules.Params.{Thresholds, CurveWeights, IrParams}
use Rattle.simm_params.specs.TomlValues.declared.fault.ValueFault.{ValueFault}
use Rattle.simm_params.specs.TomlValues.Paths.{joined}
use Rattle.simm_params.specs.TomlValues.Answers.{◌>>=◌}
use Rattle.simm_params.specs.TomlValues.Values.{table_of, rate_of}
use Rattle.params_file.specs.declared.ir_rate.IrRate.{IrRate}
use Rattle.params_file.specs.declared.ir_rate.IrRate.TheVariants as rate
use Rattle.simm_params.specs.Ranges.{weights, correlations}
use Rattle.params_file.specs.IrRate.{rate_key, rate_range}
use Rattle.params_file.specs.Matrix.{rates_of, matrix_of}
use Rattle.params_file.specs.Currencies.{new_currencies_of}
use Rattle.params_file.specs.Thresholds.{thresholds_of}
use Rattle.params_file.specs.Groups.{groups_of}

-- the words of the path of a key
abbrev pub ir_words : List ℕ → List (List ℕ)
ir_words key = codes "ir" ∷ key ∷ []

-- a single rate
unfoldable pub ir_rate : IrRate → Members → Result ℤ ValueFault
ir_rate which ir = rate_of (joined (ir_words (rate_key which))) (rate_range which) (get_member (rate_key which) ir)

-- currencies at a key, none of which stands twice or among earlier ones
unfoldable pub ir_currencies : List ℕ → List (List ℕ) → Members → Result (List (List ℕ)) ValueFault
ir_currencies key earlier ir = new_currencies_of (ir_words key) earlier (get_member key ir)

-- the twelve weights of a curve, at a key of the table `ir.weight`
abbrev pub curve_words : List ℕ → List (List ℕ)
curve_words key = codes "ir" ∷ codes "weight" ∷ key ∷ []

unfoldable pub curve_of : List ℕ → Members → Result (List ℤ) ValueFault
curve_of key table = rates_of (curve_words key) 12 weights (get_member key table)

unfoldable pub curves_of : Members → Result CurveWeights ValueFault
curves_of ir = do
  table ← table_of (joined (ir_words (codes "weight"))) (get_member (codes "weight") ir)
  regular ← curve_of (codes "regular") table
  low ← curve_of (codes "low") table
  high ← curve_of (codes "high") table
  Ok (record { regular = regular; low = low; high = high })

-- the weights of inflation and of cross-currency basis
unfoldable pub factor_weights_of : Members → Result (ℤ × ℤ) ValueFault
factor_weights_of ir = do
  inflation ← ir_rate rate.InflationWeight ir
  basis ← ir_rate rate.BasisWeight ir
  Ok (inflation, basis)

-- the correlations of tenors
unfoldable pub tenor_rhos_of : Members → Result (List (List ℤ)) ValueFault
tenor_rhos_of ir = matrix_of (ir_words (codes "rho")) 12 correlations (get_member (codes "rho") ir)

-- the correlations of sub-curves, with inflation, with cross-currency basis, and of two currencies
unfoldable pub factor_rhos_of : Members → Result (ℤ × ℤ × ℤ × ℤ) ValueFault
factor_rhos_of ir = do
  phi ← ir_rate rate.Phi ir
  inflation ← ir_rate rate.InflationRho ir
  basis ← ir_rate rate.BasisRho ir
  gamma ← ir_rate rate.Gamma ir
  Ok (phi, inflation, basis, gamma)

-- the vega weight and the historical volatility ratio
unfoldable pub volatility_rates_of : Members → Result (ℤ × ℤ) ValueFault
volatility_rates_of ir = do
  vrw ← ir_rate rate.Vrw ir
  hvr ← ir_rate rate.Hvr ir
  Ok (vrw, hvr)

-- the thresholds of the currencies in no group
unfoldable pub ir_other_of : Members → Result Thresholds ValueFault
ir_other_of ir = do
  table ← table_of (joined (ir_words (codes "other"))) (get_member (codes "other") ir)
  thresholds_of (ir_words (codes "other")) table

unfoldable pub ir_of : Members → Result IrParams ValueFault
ir_of ir = do
  low ← ir_currencies (codes "low") [] ir
  regular ← ir_currencies (codes "regular") low ir
  curves ← curves_of ir
  weight ← factor_weights_of ir
  tenors ← tenor_rhos_of ir
  rho ← factor_rhos_of ir
  volatility ← volatility_rates_of ir
  other ← ir_other_of ir
  groups ← groups_of (get_member (codes "group") ir)
  Ok (record {
    low = low;
    regular = regular;
    weights = curves;
    inflation_weight = weight.0;
    basis_weight = weight.1;
    rho = tenors;
    phi = rho.0;
    inflation_rho = rho.1;
    basis_rho = rho.2;
    gamma = rho.3;
    vrw = volatility.0;
    hvr = volatility.1;
    other = other;
    groups = groups;
  })
