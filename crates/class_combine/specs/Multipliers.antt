-- What the multipliers of product classes add, by the margins of the product classes.
use Rattle.std.specs.Prelude.{◌*◌, ◌^◌, List, Option, Some, None, ℤ, pos, ◌≤ℤ◌, if◌then◌else◌}
use Rattle.simm_params.specs.MhUnits.declared.quantities.Cents.{Cents}
use Rattle.simm_params.specs.SimmKinds.declared.kinds.ProductClass.{ProductClass}
use Rattle.simm_params.specs.SimmKinds.declared.row.CrifRow.{CrifRow}
use Rattle.simm_params.specs.SimmKinds.declared.row.CrifRow.TheVariants as row
use Rattle.simm_params.specs.SimmKinds.Order.{same_product}
use Rattle.simm_params.specs.SimmRules.declared.tables.ByProduct.{ByProduct}
use Rattle.simm_params.specs.SimmRules.Tables.{product_at}
use Rattle.simm_params.specs.SimmRules.Sums.{total_by}
use Rattle.simm_params.specs.SimmRules.AddOns.{multiplied}
use Rattle.simm_params.specs.SimmRules.Simm.{products}
use Rattle.class_combine.specs.Classes.{IsProductMargin}

abbrev pub AreProductMargins : ByProduct Cents → Type 0
AreProductMargins m = (product : ProductClass) → IsProductMargin (product_at m product).0

-- the multiplier that a row gives a product class, in ten-thousandths
abbrev pub multiplier_at : ProductClass → CrifRow → Option ℤ
multiplier_at product (row.Sensitivity key amount) = None
multiplier_at product (row.Notional qualifier amount) = None
multiplier_at product (row.FixedAmount amount) = None
multiplier_at product (row.NotionalFactor qualifier factor) = None
multiplier_at product (row.Multiplier of factor) = if same_product of product then Some factor.0 else None

abbrev pub multiplied_in : List CrifRow → ByProduct Cents → ℤ
multiplied_in rows m = total_by (λ product. multiplied rows product (product_at m product).0) products

-- a multiplier, in ten-thousandths: 1 to 10
pub record IsMultiplier (factor : ℤ) : Type 0 where
  pub low : pos 10000 ≤ℤ factor
  pub high : factor ≤ℤ pos 100000

-- what a multiplier adds, in cents
pub record IsMultiplied (amount : ℤ) : Type 0 where
  pub low : pos 0 ≤ℤ amount
  pub size : amount ≤ℤ pos (108 * 10 ^ 16)
