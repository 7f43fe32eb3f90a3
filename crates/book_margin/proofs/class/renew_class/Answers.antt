use Rattle.std.proofs.Common.{◌≡◌, ap, sym, false, arith}
use Rattle.std.specs.Prelude.{is_some}
use Rattle.kept_buckets.specs.Kept.{margin_at}
use Rattle.class_margin.specs.value.Place.{count_of}
use Rattle.book_margin.proofs.Renewed.{renews_none, renews_both, renews_margin, margin_now, same_steps}
use Rattle.book_margin.proofs.class.renew_class.Goals as goal

pub returns-in-Some-clause-renewed : goal.returns-in-Some-clause-renewed
returns-in-Some-clause-renewed g c = renews_none c.args.kept.now c.requires.right

pub returns-in-Some-clause-kept : goal.returns-in-Some-clause-kept
returns-in-Some-clause-kept g c = ap is_some (sym c.in-Some.ensures)

pub returns-in_ok-margin-in-None-clause-renewed : goal.returns-in_ok-margin-in-None-clause-renewed
returns-in_ok-margin-in-None-clause-renewed g c =
    let mid = c.renewed_margin.new.kept in
    renews_both c.args.kept.now mid c.keep_margin.new.self c.renewed_margin.ensures.renewed
    (renews_margin mid c.keep_margin.new.self c.args.product c.args.class c.in_ok-margin-in-None.margin c.renewed_margin.ensures.renewed.right c.keep_margin.ensures c.in_ok-margin-in-None.ensures.margin c.in_ok-margin-in-None.ensures.whole)

pub returns-in_ok-margin-in-None-clause-kept : goal.returns-in_ok-margin-in-None-clause-kept
returns-in_ok-margin-in-None-clause-kept g c =
    let mid = c.renewed_margin.new.kept in
    margin_now mid c.keep_margin.new.self c.args.product c.args.class c.in_ok-margin-in-None.margin c.keep_margin.ensures

pub returns-in_ok-margin-in-None-clause-steps : goal.returns-in_ok-margin-in-None-clause-steps
returns-in_ok-margin-in-None-clause-steps g c =
    omega (arith, c.in_ok-margin-in-None.ensures.steps, same_steps c.renewed_margin.new.kept c.keep_margin.new.self c.args.product c.args.class c.in_ok-margin-in-None.margin c.keep_margin.ensures (count_of c.args.params.now) c.args.factors.now)

pub returns-in_err-margin-in-None-clause-at_once : goal.returns-in_err-margin-in-None-clause-at_once
returns-in_err-margin-in-None-clause-at_once g c = λ some. absurd (let none : is_some (margin_at c.args.kept.now c.args.product c.args.class) ≡ false = ap is_some (sym c.in-None.ensures) in cc)
