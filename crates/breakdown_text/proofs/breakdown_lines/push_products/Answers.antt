use Rattle.std.proofs.Common.{◌∙◌, ◌++◌, ap, get_or, arith}
use Rattle.simm_kinds.specs.declared.kinds.ProductClass.TheVariants as product
use Rattle.simm_rules.specs.Parts.{product_part}
use Rattle.simm_rules.specs.Simm.{products}
use Rattle.breakdown_text.specs.Margins.{product_lines}
use Rattle.breakdown_text.proofs.Pieces.{piece_step}
use Rattle.breakdown_text.proofs.breakdown_lines.push_products.Goals as goal

pub loop-product-preserved : goal.loop-product-preserved
loop-product-preserved c =
    piece_step (λ product. product_lines product (product_part c.args.margin.now product)) products c.loop-product.product-index product.RatesFX c.loop-product.text c.push_product.new.text (omega arith)
    (c.in_ok-push_product.ensures ∙ ap (λ part. c.loop-product.text ++ product_lines (get_or products c.loop-product.product-index product.RatesFX) part) c.product.ensures)
    ∙ c.loop-product.invariant
