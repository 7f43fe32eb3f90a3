-- The single rates of the table of interest rates: the key and the range of each.
use Rattle.std.specs.Prelude.{ℕ, List, codes}
use Rattle.simm_params.specs.TomlValues.declared.range.Range.{Range}
use Rattle.simm_params.specs.Ranges.{weights, correlations, vega_weights, ir_hvrs}
use Rattle.params_file.specs.declared.ir_rate.IrRate.{IrRate}
use Rattle.params_file.specs.declared.ir_rate.IrRate.TheVariants as ir

abbrev pub rate_key : IrRate → List ℕ
rate_key ir.InflationWeight = codes "inflation_weight"
rate_key ir.BasisWeight = codes "basis_weight"
rate_key ir.Phi = codes "phi"
rate_key ir.InflationRho = codes "inflation_rho"
rate_key ir.BasisRho = codes "basis_rho"
rate_key ir.Gamma = codes "gamma"
rate_key ir.Vrw = codes "vrw"
rate_key ir.Hvr = codes "hvr"

abbrev pub rate_range : IrRate → Range
rate_range ir.InflationWeight = weights
rate_range ir.BasisWeight = weights
rate_range ir.Phi = correlations
rate_range ir.InflationRho = correlations
rate_range ir.BasisRho = correlations
rate_range ir.Gamma = correlations
rate_range ir.Vrw = vega_weights
rate_range ir.Hvr = ir_hvrs
