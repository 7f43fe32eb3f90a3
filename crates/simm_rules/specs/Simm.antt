-- The margin of a book, with all of its parts.
-- (ISDA SIMM methodology, structure: the margins of a product class by psi; additional margins.)
use Rattle.std.specs.Prelude.{List, [], ◌∷◌, ℤ, pos, ◌+ℤ◌, ◌*ℤ◌, if◌then◌else◌}
use Rattle.simm_kinds.specs.MhUnits.Rounding.{up, root}
use Rattle.simm_kinds.specs.declared.kinds.ProductClass.{ProductClass}
use Rattle.simm_kinds.specs.declared.kinds.ProductClass.TheVariants as product
use Rattle.simm_kinds.specs.declared.kinds.RiskClass.{RiskClass}
use Rattle.simm_kinds.specs.declared.kinds.RiskClass.TheVariants as class
use Rattle.simm_kinds.specs.declared.row.CrifRow.{CrifRow}
use Rattle.simm_kinds.specs.Order.{class_place, same_class}
use Rattle.simm_rules.specs.declared.values.ProductMargin.{ProductMargin}
use Rattle.simm_rules.specs.declared.values.Breakdown.{Breakdown}
use Rattle.simm_rules.specs.Parts.{cents}
use Rattle.simm_rules.specs.Tables.{class_table, product_table}
use Rattle.simm_rules.specs.Params.{Params}
use Rattle.simm_rules.specs.Lookups.{at_row}
use Rattle.simm_rules.specs.Sums.{total_by, total_by_pairs}
use Rattle.simm_rules.specs.Net.{Sensitivity, sensitivities, in_product, netted}
use Rattle.simm_rules.specs.declared.classes.CreditClass.TheVariants.{Qualifying, NonQualifying}
use Rattle.simm_rules.specs.declared.classes.PricedClass.TheVariants.{Equities, Commodities}
use Rattle.simm_rules.specs.Rates.{rate_margin}
use Rattle.simm_rules.specs.Credit.{credit_margin}
use Rattle.simm_rules.specs.BaseCorrelation.{base_margin}
use Rattle.simm_rules.specs.Priced.{price_margin}
use Rattle.simm_rules.specs.ForeignExchange.{fx_margin}
use Rattle.simm_rules.specs.AddOns.{fixed_amounts, notional_add_on, multiplied}

abbrev pub products : List ProductClass
products = product.RatesFX ∷ product.Credit ∷ product.Equity ∷ product.Commodity ∷ []

abbrev pub classes : List RiskClass
classes = class.IR ∷ class.CreditQ ∷ class.CreditNonQ ∷ class.Equity ∷ class.Commodity ∷ class.FX ∷ []

-- the margin of a risk class, of the netted sensitivities of one product class: delta, vega and curvature, and in
-- qualifying credit base correlation
abbrev pub class_margin_of : Params → List Sensitivity → RiskClass → ℤ
class_margin_of p ss class.IR = rate_margin p ss
class_margin_of p ss class.CreditQ = credit_margin p Qualifying ss +ℤ base_margin p ss
class_margin_of p ss class.CreditNonQ = credit_margin p NonQualifying ss
class_margin_of p ss class.Equity = price_margin p Equities ss
class_margin_of p ss class.Commodity = price_margin p Commodities ss
class_margin_of p ss class.FX = fx_margin p ss

abbrev pub class_margin : Params → List CrifRow → ProductClass → RiskClass → ℤ
class_margin p rows product class = class_margin_of p (netted (in_product product (sensitivities rows))) class

-- the correlation of two risk classes, in ten-thousandths: 1 of one with itself
abbrev pub psi : Params → RiskClass → RiskClass → ℤ
psi p r s = if same_class r s then pos 10000 else at_row p.psi (class_place r) (class_place s)

-- the margin of a product class: its class margins m, joined by psi
abbrev pub joined : Params → (RiskClass → ℤ) → ℤ
joined p m = root (up (total_by_pairs (λ r s. psi p r s *ℤ m r *ℤ m s) classes) (pos 10000))

abbrev pub product_margin : Params → List CrifRow → ProductClass → ℤ
product_margin p rows product = joined p (class_margin p rows product)

abbrev pub multiplier_add_on : Params → List CrifRow → ℤ
multiplier_add_on p rows = total_by (λ product. multiplied rows product (product_margin p rows product)) products

-- the part of a product class: its margin, and those of its risk classes
abbrev pub part_of : Params → List CrifRow → ProductClass → ProductMargin
part_of p rows product = record {
  margin = cents (product_margin p rows product);
  classes = class_table (λ class. cents (class_margin p rows product class));
}

-- the margin of the rows of a book
unfoldable pub simm : Params → List CrifRow → Breakdown
simm p rows = record {
  products = product_table (part_of p rows);
  fixed = cents (fixed_amounts rows);
  notional = cents (notional_add_on rows);
  multiplier = cents (multiplier_add_on p rows);
  total = cents (total_by (product_margin p rows) products +ℤ fixed_amounts rows +ℤ notional_add_on rows +ℤ multiplier_add_on p rows);
}
