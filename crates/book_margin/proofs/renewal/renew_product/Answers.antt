use Rattle.std.proofs.Common.{◌≡◌, false, ap}
use Rattle.std.specs.Prelude.{is_ok, IsOk}
use Rattle.std.proofs.lemmas.List.{get_or_default}
use Rattle.kept_buckets.specs.SimmKinds.declared.kinds.RiskClass.TheVariants.{IR}
use Rattle.kept_buckets.specs.SimmRules.Simm.{classes}
use Rattle.book_margin.proofs.Classes.{IsClassKept, each_class}
use Rattle.book_margin.proofs.Gathering.{renewed_first, renewed_next, renewed_all}
use Rattle.book_margin.proofs.Renewed.{renews_both, margin_still, margins_still}
use Rattle.book_margin.proofs.renewal.renew_product.Goals as goal

pub loop-class-init : goal.loop-class-init
loop-class-init g c = renewed_first c.args.params.now c.args.factors.now (IsClassKept c.args.product) c.args.kept.now c.args.steps.now c.requires.right

pub renew_class-requires-clause-right : goal.renew_class-requires-clause-right
renew_class-requires-clause-right g c = c.loop-class.invariant.renewed.right

pub returns-in_err-renew_class-clause-renewed : goal.returns-in_err-renew_class-clause-renewed
returns-in_err-renew_class-clause-renewed g c =
    renews_both c.args.kept.now c.loop-class.kept c.renew_class.new.kept c.loop-class.invariant.renewed c.renew_class.ensures.renewed

pub returns-in_err-renew_class-clause-at_once : goal.returns-in_err-renew_class-clause-at_once
returns-in_err-renew_class-clause-at_once g c = λ all.
    let ok : IsOk c.renew_class.result = c.renew_class.ensures.at_once (margins_still c.args.kept.now c.loop-class.kept c.loop-class.invariant.renewed all c.args.product _) in
    absurd (let err : is_ok c.renew_class.result ≡ false = ap is_ok c.in_err-renew_class.was in cc)

pub loop-class-preserved : goal.loop-class-preserved
loop-class-preserved g c =
    renewed_next c.args.params.now c.args.factors.now (IsClassKept c.args.product) c.args.kept.now c.loop-class.kept c.renew_class.new.kept classes c.loop-class.class-index _ c.args.steps.now c.loop-class.steps c.renew_class.new.steps
    c.loop-class-test.true (get_or_default classes c.loop-class.class-index IR _ c.loop-class-test.true) c.loop-class.invariant c.renew_class.ensures.renewed
    (λ k. margin_still c.loop-class.kept c.renew_class.new.kept c.renew_class.ensures.renewed c.args.product k) c.in_ok-renew_class.ensures.kept c.in_ok-renew_class.ensures.steps

pub returns-clause-renewed : goal.returns-clause-renewed
returns-clause-renewed g c = c.loop-class.invariant.renewed

pub returns-clause-kept : goal.returns-clause-kept
returns-clause-kept g c =
    each_class (IsClassKept c.args.product c.loop-class.kept)
    (renewed_all c.args.params.now c.args.factors.now (IsClassKept c.args.product) c.args.kept.now c.loop-class.kept classes c.loop-class.class-index c.args.steps.now c.loop-class.steps c.loop-class-test.false c.loop-class.invariant)

pub returns-clause-steps : goal.returns-clause-steps
returns-clause-steps g c = c.loop-class.invariant.steps
