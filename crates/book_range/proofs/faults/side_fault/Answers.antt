use Rattle.std.proofs.Common.{◌∙◌, sym, ap}
use Rattle.std.specs.Prelude.{is_some}
use Rattle.std.proofs.lemmas.List.{get_or_default}
use Rattle.simm_params.specs.SimmKinds.declared.kinds.ProductClass.TheVariants.{RatesFX}
use Rattle.simm_params.specs.SimmRules.Simm.{products}
use Rattle.book_range.specs.Faults.{product_fault}
use Rattle.book_range.proofs.Firsts.{next_none, first_hit, none_from_test}
use Rattle.book_range.proofs.faults.side_fault.Goals as goal

pub returns-then-is_some : goal.returns-then-is_some
returns-then-is_some c =
    c.product_fault-fault.ensures
    ∙ first_hit (product_fault c.args.sizes.now c.args.side) products c.loop-product.product-index _ c.loop-product-test.true
    (get_or_default products c.loop-product.product-index RatesFX _ c.loop-product-test.true) c.loop-product.invariant
    (ap is_some (sym c.product_fault-fault.ensures) ∙ sym c.is_some.ensures ∙ c.if-is_some.true)

pub loop-product-preserved : goal.loop-product-preserved
loop-product-preserved c =
    next_none (product_fault c.args.sizes.now c.args.side) products c.loop-product.product-index _ c.loop-product-test.true
    (get_or_default products c.loop-product.product-index RatesFX _ c.loop-product-test.true) c.loop-product.invariant
    (sym c.product_fault-fault.ensures ∙ none_from_test c.product_fault-fault.result (sym c.is_some.ensures ∙ c.if-is_some.false))
