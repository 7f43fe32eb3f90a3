use Rattle.std.specs.List.{flat_map}
use Rattle.simm_rules.specs.Parts.{product_part}
use Rattle.simm_rules.specs.Simm.{products}
use Rattle.breakdown_text.specs.Margins.{part_lines, product_lines, add_on_lines}
use Rattle.breakdown_text.proofs.Pieces.{two_pieces}
use Rattle.breakdown_text.proofs.breakdown_lines.push_margin_parts.Goals as goal

pub returns : goal.returns
unfolding part_lines
returns c =
    let b = c.args.margin.now in
    two_pieces (flat_map (λ product. product_lines product (product_part b product)) products) (add_on_lines b)
    c.args.text.now c.push_products.new.text c.push_add_ons.new.text c.in_ok-push_products.ensures c.in_ok-push_add_ons.ensures
