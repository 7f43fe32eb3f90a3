-- The parts of a margin by product class and risk class.
-- (ISDA SIMM methodology, structure: product classes, and the risk classes in each.)
use Rattle.std.specs.Prelude.{ℤ}
use Rattle.simm_kinds.specs.MhUnits.declared.quantities.Cents.{Cents}
use Rattle.simm_kinds.specs.declared.kinds.ProductClass.{ProductClass}
use Rattle.simm_kinds.specs.declared.kinds.RiskClass.{RiskClass}
use Rattle.simm_rules.specs.declared.values.ProductMargin.{ProductMargin}
use Rattle.simm_rules.specs.declared.values.Breakdown.{Breakdown}
use Rattle.simm_rules.specs.Tables.{class_at, product_at}

abbrev pub cents : ℤ → Cents
cents amount = record { 0 = amount }

abbrev pub product_part : Breakdown → ProductClass → ProductMargin
product_part b product = product_at b.products product

-- the margin of a risk class in a product class
abbrev pub class_part : ProductMargin → RiskClass → Cents
class_part m class = class_at m.classes class
