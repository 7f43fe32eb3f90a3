use Rattle.std.proofs.Common.{rules, ◌∙◌, FitsSigned, ℤ, to_z, of_z}
use Rattle.std.specs.Int.{w128}
use Rattle.std.proofs.lemmas.Int.{to_z-of_z}
use Rattle.explain_text.proofs.OfClass.{product_is}
use Rattle.explain_text.proofs.class_lines.push_product.Goals as goal

pub returns : goal.returns
returns c =
    let its : ℤ = c.product.result.now.margin.0 in
    let fits : FitsSigned w128 its = search rules in
    product_is c.args.params.now c.args.figures.now c.args.product
    c.has_product.result (to_z w128 (of_z w128 its)) c.args.text.now c.push_classes.new.text c.push_product_margin.new.text
    c.has_product.ensures c.if-not-has_product.false
    (to_z-of_z w128 its fits ∙ (λ k. (c.product.ensures k).margin.0))
    c.in_ok-push_classes.ensures c.in_ok-push_product_margin.ensures
