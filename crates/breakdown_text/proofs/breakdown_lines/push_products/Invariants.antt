use Rattle.std.proofs.Common.{◌≡◌, ◌++◌, drop}
use Rattle.std.specs.List.{flat_map}
use Rattle.simm_rules.specs.Parts.{product_part}
use Rattle.simm_rules.specs.Simm.{products}
use Rattle.breakdown_text.specs.Margins.{product_lines}
use Rattle.breakdown_text.proofs.breakdown_lines.push_products.Given as goal

-- the text so far and the lines of what is left are those of all
abbrev pub invariant-loop-product : goal.invariant-loop-product
invariant-loop-product l =
    l.text ++ flat_map (λ product. product_lines product (product_part l.margin product)) (drop l.product-index products)
    ≡ l.fn.text ++ flat_map (λ product. product_lines product (product_part l.margin product)) products
