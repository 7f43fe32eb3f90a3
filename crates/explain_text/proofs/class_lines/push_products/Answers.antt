use Rattle.std.proofs.Common.{◌++◌, ◌∙◌, drop, arith}
use Rattle.std.specs.List.{flat_map}
use Rattle.std.proofs.lemmas.List.{drop_all}
use Rattle.std.proofs.lemmas.Result.{err_from_is_err_and}
use Rattle.measured_bucket.specs.SimmKinds.declared.kinds.ProductClass.TheVariants as product
use Rattle.measured_bucket.specs.SimmRules.Simm.{products}
use Rattle.breakdown_text.proofs.Pieces.{piece_step}
use Rattle.explain_text.proofs.Pieces.{lent_end}
use Rattle.explain_text.proofs.Products.{its_lines}
use Rattle.explain_text.proofs.class_lines.push_products.Goals as goal

pub loop-product-preserved : goal.loop-product-preserved
loop-product-preserved c =
    piece_step (its_lines c.args.params.now c.args.figures.now) products c.loop-product.product-index product.RatesFX c.loop-product.text c.push_product.new.text (omega arith) c.in_ok-push_product.ensures
    ∙ c.loop-product.invariant

pub returns-in_err-push_product : goal.returns-in_err-push_product
returns-in_err-push_product c = let p = err_from_is_err_and c.from_residual.result c.from_residual.ensures.1 in rw p.1 tt

pub returns : goal.returns
returns c =
    let lines = its_lines c.args.params.now c.args.figures.now in
    lent_end lines (drop c.loop-product.product-index products) c.loop-product.text (c.args.text.now ++ flat_map lines products)
    (drop_all c.loop-product.product-index products c.loop-product-test.false) c.loop-product.invariant
