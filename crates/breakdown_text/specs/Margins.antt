-- The lines of a margin: the whole, then each product, class and add-on that isn't 0.
use Rattle.std.specs.Prelude.{ℕ, List, [], ◌++◌, codes, if◌then◌else◌, ℤ}
use Rattle.std.specs.List.{flat_map}
use Rattle.mh_units.specs.Money.{money_text}
use Rattle.simm_kinds.specs.declared.kinds.ProductClass.{ProductClass}
use Rattle.simm_kinds.specs.declared.kinds.RiskClass.{RiskClass}
use Rattle.simm_kinds.specs.Kinds.{product_word, class_word}
use Rattle.simm_rules.specs.declared.values.ProductMargin.{ProductMargin}
use Rattle.simm_rules.specs.declared.values.Breakdown.{Breakdown}
use Rattle.simm_rules.specs.Parts.{class_part, product_part}
use Rattle.simm_rules.specs.Simm.{products, classes}
use Rattle.fault_text.specs.Fields.{field, last_field, is_zero, amount_line}

abbrev pub class_fields : ProductClass → RiskClass → List ℕ
class_fields product class = field (codes "CLASS") ++ field (product_word product) ++ field (class_word class)

-- a risk class of a product with its margin
abbrev pub class_margin_line : ProductClass → RiskClass → ℤ → List ℕ
class_margin_line product class margin = class_fields product class ++ last_field (money_text margin)

-- where that isn't 0
abbrev pub class_line : ProductClass → ProductMargin → RiskClass → List ℕ
class_line product part class = amount_line (class_fields product class) (class_part part class).0

-- a product with its margin
abbrev pub product_margin_line : ProductClass → ℤ → List ℕ
product_margin_line product margin = field (codes "PRODUCT") ++ field (product_word product) ++ last_field (money_text margin)

-- and its classes under it; nothing where the margin is 0
abbrev pub product_lines : ProductClass → ProductMargin → List ℕ
product_lines product part =
    if is_zero part.margin.0 then []
    else product_margin_line product part.margin.0 ++ flat_map (class_line product part) classes

-- the additional margins that aren't 0
abbrev pub add_on_lines : Breakdown → List ℕ
add_on_lines b =
    amount_line (field (codes "FIXED")) b.fixed.0
    ++ amount_line (field (codes "NOTIONAL")) b.notional.0
    ++ amount_line (field (codes "MULTIPLIER")) b.multiplier.0

-- the parts of a margin that aren't 0
unfoldable pub part_lines : Breakdown → List ℕ
part_lines b =
    flat_map (λ product. product_lines product (product_part b product)) products ++ add_on_lines b

-- the whole
abbrev pub total_line : ℤ → List ℕ
total_line total = field (codes "MARGIN") ++ last_field (money_text total)

-- a margin with all of its parts that aren't 0
abbrev pub margin_text : Breakdown → List ℕ
margin_text b = total_line b.total.0 ++ part_lines b
