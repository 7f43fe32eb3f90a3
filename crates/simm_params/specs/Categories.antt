-- The categories of currencies, and what the parameters say of them.
-- (ISDA SIMM methodology: volatility categories and concentration categories of currencies.)
use Rattle.std.specs.Prelude.{ℕ, List, ℤ, if◌then◌else◌}
use Rattle.simm_rules.specs.Params.{Params}
use Rattle.simm_rules.specs.Lookups.{is_listed}
use Rattle.simm_rules.specs.ForeignExchange.{is_high}
use Rattle.simm_params.specs.declared.category.VolatilityCategory.{VolatilityCategory}
use Rattle.simm_params.specs.declared.category.VolatilityCategory.TheVariants.{Regular, High}
use Rattle.simm_params.specs.declared.category.ConcentrationCategory.{ConcentrationCategory}
use Rattle.simm_params.specs.declared.category.ConcentrationCategory.TheVariants.{First, Second, Third}

abbrev pub volatility : Params → List ℕ → VolatilityCategory
volatility p currency = if is_high p currency then High else Regular

abbrev pub concentration : Params → List ℕ → ConcentrationCategory
concentration p currency = if is_listed p.fx.first currency then First else if is_listed p.fx.second currency then Second else Third

-- the risk weight of a currency of this category, other than the calculation currency
abbrev pub category_weight : Params → VolatilityCategory → ℤ
category_weight p Regular = p.fx.regular_weight
category_weight p High = p.fx.high_weight

-- the correlation of two currencies of these categories
abbrev pub category_rho : Params → VolatilityCategory → VolatilityCategory → ℤ
category_rho p High High = p.fx.high_rho
category_rho p Regular Regular = p.fx.regular_rho
category_rho p Regular High = p.fx.mixed_rho
category_rho p High Regular = p.fx.mixed_rho

abbrev pub category_threshold : Params → ConcentrationCategory → ℤ
category_threshold p First = p.fx.first_threshold
category_threshold p Second = p.fx.second_threshold
category_threshold p Third = p.fx.third_threshold
