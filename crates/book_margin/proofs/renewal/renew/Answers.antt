use Rattle.std.proofs.Common.{◌≡◌, false, ap}
use Rattle.std.specs.Prelude.{is_ok, IsOk}
use Rattle.std.proofs.lemmas.List.{get_or_default}
use Rattle.kept_buckets.specs.SimmKinds.declared.kinds.ProductClass.TheVariants.{RatesFX}
use Rattle.kept_buckets.specs.SimmRules.Simm.{products}
use Rattle.book_margin.proofs.Classes.{IsProductKept, all_margins, fresh}
use Rattle.book_margin.proofs.Gathering.{renewed_first, renewed_next, renewed_all}
use Rattle.book_margin.proofs.Renewed.{renews_both, margin_still, margins_still}
use Rattle.book_margin.proofs.renewal.renew.Goals as goal

pub loop-product-init : goal.loop-product-init
loop-product-init g c = renewed_first c.args.params.now c.args.factors.now IsProductKept c.args.kept.now c.args.steps.now c.requires.right

pub renew_product-requires-clause-right : goal.renew_product-requires-clause-right
renew_product-requires-clause-right g c = c.loop-product.invariant.renewed.right

pub returns-in_err-renew_product-clause-renewed : goal.returns-in_err-renew_product-clause-renewed
returns-in_err-renew_product-clause-renewed g c =
    renews_both c.args.kept.now c.loop-product.kept c.renew_product.new.kept c.loop-product.invariant.renewed c.renew_product.ensures.renewed

pub returns-in_err-renew_product-clause-at_once : goal.returns-in_err-renew_product-clause-at_once
returns-in_err-renew_product-clause-at_once g c = λ all.
    let ok : IsOk c.renew_product.result = c.renew_product.ensures.at_once (margins_still c.args.kept.now c.loop-product.kept c.loop-product.invariant.renewed all) in
    absurd (let err : is_ok c.renew_product.result ≡ false = ap is_ok c.in_err-renew_product.was in cc)

pub loop-product-preserved : goal.loop-product-preserved
loop-product-preserved g c =
    renewed_next c.args.params.now c.args.factors.now IsProductKept c.args.kept.now c.loop-product.kept c.renew_product.new.kept products c.loop-product.product-index _ c.args.steps.now c.loop-product.steps c.renew_product.new.steps
    c.loop-product-test.true (get_or_default products c.loop-product.product-index RatesFX _ c.loop-product-test.true) c.loop-product.invariant c.renew_product.ensures.renewed
    (λ a h k. margin_still c.loop-product.kept c.renew_product.new.kept c.renew_product.ensures.renewed a k (h k)) c.in_ok-renew_product.ensures.kept c.in_ok-renew_product.ensures.steps

pub returns-clause-renewed : goal.returns-clause-renewed
returns-clause-renewed g c = c.loop-product.invariant.renewed

pub returns-clause-fresh : goal.returns-clause-fresh
returns-clause-fresh g c =
    fresh c.loop-product.kept c.loop-product.invariant.renewed.right
    (all_margins c.loop-product.kept
    (renewed_all c.args.params.now c.args.factors.now IsProductKept c.args.kept.now c.loop-product.kept products c.loop-product.product-index c.args.steps.now c.loop-product.steps c.loop-product-test.false c.loop-product.invariant))

pub returns-clause-steps : goal.returns-clause-steps
returns-clause-steps g c = c.loop-product.invariant.steps
