-- A whole margin, by the margins of the risk classes in each product class, of the product classes and the add-ons.
-- (ISDA SIMM methodology, structure: the margins of product classes add up; additional margins.)
use Rattle.std.specs.Prelude.{◌*◌, ◌^◌, ℤ, pos, ◌+ℤ◌, ◌≤ℤ◌, ◌<ℤ◌}
use Rattle.simm_params.specs.MhUnits.declared.quantities.Cents.{Cents}
use Rattle.simm_params.specs.SimmKinds.declared.kinds.ProductClass.{ProductClass}
use Rattle.simm_params.specs.SimmRules.declared.tables.ByClass.{ByClass}
use Rattle.simm_params.specs.SimmRules.declared.tables.ByProduct.{ByProduct}
use Rattle.simm_params.specs.SimmRules.declared.values.ProductMargin.{ProductMargin}
use Rattle.simm_params.specs.SimmRules.declared.values.Breakdown.{Breakdown}
use Rattle.simm_params.specs.SimmRules.Params.{Params}
use Rattle.simm_params.specs.SimmRules.Parts.{cents, product_part}
use Rattle.simm_params.specs.SimmRules.Tables.{product_at, product_table}
use Rattle.simm_params.specs.SimmRules.Sums.{total_by}
use Rattle.simm_params.specs.SimmRules.Simm.{products}
use Rattle.class_combine.specs.declared.additional.AddOns.{AddOns}
use Rattle.class_combine.specs.Classes.{joined_in, AreClassMargins, IsProductMargin}

-- the margins of the product classes: those of their risk classes together
abbrev pub margins_of : Params → ByProduct (ByClass Cents) → ByProduct Cents
margins_of p m = product_table (λ product. cents (joined_in p (product_at m product)))

-- a product class with its risk classes
abbrev pub product_margin_of : Cents → ByClass Cents → ProductMargin
product_margin_of margin classes = record { margin = margin; classes = classes }

-- the product classes with their risk classes, and the total: the sum of the product classes and of the add-ons
abbrev pub breakdown_of : ByProduct (ByClass Cents) → ByProduct Cents → AddOns → Breakdown
breakdown_of c m a = record {
  products = product_table (λ product. product_margin_of (product_at m product) (product_at c product));
  fixed = a.fixed;
  notional = a.notional;
  multiplier = a.multiplier;
  total = cents (total_by (λ product. (product_at m product).0) products +ℤ a.fixed.0 +ℤ a.notional.0 +ℤ a.multiplier.0);
}

abbrev pub AreProductClasses : ByProduct (ByClass Cents) → Type 0
AreProductClasses m = (product : ProductClass) → AreClassMargins (product_at m product)

-- an add-on, in cents
pub record IsAddOn (amount : ℤ) : Type 0 where
  pub low : pos 0 ≤ℤ amount
  pub size : amount ≤ℤ pos (3 * 10 ^ 20)

pub record AreAddOns (a : AddOns) : Type 0 where
  pub fixed : IsAddOn a.fixed.0
  pub notional : IsAddOn a.notional.0
  pub multiplier : IsAddOn a.multiplier.0

-- the total of a margin with all of its parts, in cents
pub record IsTotal (total : ℤ) : Type 0 where
  pub low : pos 0 ≤ℤ total
  pub below : total <ℤ pos (10 ^ 21)

-- the margins of its product classes
abbrev pub HasProductMargins : Breakdown → Type 0
HasProductMargins b = (product : ProductClass) → IsProductMargin (product_part b product).margin.0
