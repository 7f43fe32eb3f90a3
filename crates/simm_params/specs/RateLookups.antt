-- The volatility categories of the curves of currencies, and what the parameters say of them.
-- (ISDA SIMM methodology, interest rate risk: low, regular and high volatility currencies.)
use Rattle.std.specs.Prelude.{ℕ, List, ℤ, if◌then◌else◌}
use Rattle.simm_rules.specs.Params.{Params}
use Rattle.simm_rules.specs.Lookups.{is_listed}
use Rattle.simm_params.specs.declared.category.CurveCategory.{CurveCategory}
use Rattle.simm_params.specs.declared.category.CurveCategory.TheVariants as curve

abbrev pub curve_category : Params → List ℕ → CurveCategory
curve_category p currency =
    if is_listed p.ir.low currency then curve.Low
    else if is_listed p.ir.regular currency then curve.Regular
    else curve.High

-- the weights by tenor of a currency of this category
abbrev pub category_curve : Params → CurveCategory → List ℤ
category_curve p curve.Low = p.ir.weights.low
category_curve p curve.Regular = p.ir.weights.regular
category_curve p curve.High = p.ir.weights.high
