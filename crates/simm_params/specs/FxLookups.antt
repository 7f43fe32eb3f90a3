-- What the parameters of foreign exchange say of the categories of two currencies.
use Rattle.std.specs.Prelude.{ℕ, ℤ}
use Rattle.simm_rules.specs.Params.{FxParams}
use Rattle.simm_params.specs.declared.category.VolatilityCategory.{VolatilityCategory}
use Rattle.simm_params.specs.declared.category.VolatilityCategory.TheVariants.{Regular, High}
use Rattle.simm_params.specs.declared.category.ConcentrationCategory.{ConcentrationCategory}
use Rattle.simm_params.specs.declared.category.ConcentrationCategory.TheVariants.{First, Second, Third}
use Rattle.simm_params.specs.Matrix.{entry}

-- of three rates, that of both regular, of mixed, or of both high
abbrev pub pair_rate : ℤ × ℤ × ℤ → VolatilityCategory → VolatilityCategory → ℤ
pair_rate rates Regular Regular = rates.0
pair_rate rates Regular High = rates.1
pair_rate rates High Regular = rates.1
pair_rate rates High High = rates.2

abbrev pub pair_rho : FxParams → VolatilityCategory → VolatilityCategory → ℤ
pair_rho fx a b = pair_rate (fx.regular_rho, fx.mixed_rho, fx.high_rho) a b

abbrev pub pair_sigma : FxParams → VolatilityCategory → VolatilityCategory → ℤ
pair_sigma fx a b = pair_rate (fx.regular_sigma, fx.mixed_sigma, fx.high_sigma) a b

-- a category's place among the three
abbrev pub category_place : ConcentrationCategory → ℕ
category_place First = 0
category_place Second = 1
category_place Third = 2

abbrev pub pair_threshold : FxParams → ConcentrationCategory → ConcentrationCategory → ℤ
pair_threshold fx a b = entry fx.vega_threshold (category_place a) (category_place b)
