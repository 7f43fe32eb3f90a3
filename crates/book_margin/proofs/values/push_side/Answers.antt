use Rattle.std.proofs.Common.{◌∙◌, ◌++◌, ap}
use Rattle.book_margin.proofs.Gathering.{all_kept, gone_all, next_lent, none_kept, one_kept}
use Rattle.book_margin.proofs.Renewed.{renews_both}
use Rattle.book_margin.proofs.values.push_side.Goals as goal

pub loop-lent-init : goal.loop-lent-init
loop-lent-init g c =
    none_kept c.args.params.now c.args.factors.now c.args.product c.args.class c.args.side c.args.kept.now c.args.values.now.items c.args.steps.now c.into_iter-lent-iterator.result c.requires.right
    (c.into_iter-lent-iterator.ensures.into_iter_gives ∙ c.side-lent-items.ensures.rest)

pub value_of-requires-clause-right : goal.value_of-requires-clause-right
value_of-requires-clause-right g c = c.loop-lent.invariant.renewed.right

pub value_of-requires-clause-its : goal.value_of-requires-clause-its
value_of-requires-clause-its g c =
    (next_lent c.args.params.now c.args.factors.now c.args.product c.args.class c.args.side c.args.values.now.items c.loop-lent.lent-iterator c.next.new.self (c.in-Some.field-0-0.now, c.in-Some.lent.now) c.loop-lent.values.items
    c.loop-lent.invariant.gone c.in-Some.ensures.steps).is

pub value_of-requires-clause-some : goal.value_of-requires-clause-some
value_of-requires-clause-some g c =
    (next_lent c.args.params.now c.args.factors.now c.args.product c.args.class c.args.side c.args.values.now.items c.loop-lent.lent-iterator c.next.new.self (c.in-Some.field-0-0.now, c.in-Some.lent.now) c.loop-lent.values.items
    c.loop-lent.invariant.gone c.in-Some.ensures.steps).some

pub returns-in_err-value-clause-renewed : goal.returns-in_err-value-clause-renewed
returns-in_err-value-clause-renewed g c = renews_both c.args.kept.now c.loop-lent.kept c.value_of.new.kept c.loop-lent.invariant.renewed c.value_of.ensures.renewed

pub returns-in_err-extend_from_slice-clause-renewed : goal.returns-in_err-extend_from_slice-clause-renewed
returns-in_err-extend_from_slice-clause-renewed g c = renews_both c.args.kept.now c.loop-lent.kept c.value_of.new.kept c.loop-lent.invariant.renewed c.value_of.ensures.renewed

pub loop-lent-preserved : goal.loop-lent-preserved
loop-lent-preserved g c =
    one_kept c.args.params.now c.args.factors.now c.args.product c.args.class c.args.side c.args.kept.now c.args.values.now.items c.args.steps.now c.loop-lent.kept c.value_of.new.kept c.loop-lent.lent-iterator c.next.new.self
    (c.in-Some.field-0-0.now, c.in-Some.lent.now) c.in_ok-value.value c.loop-lent.values.items c.extend_from_slice.new.self.items c.loop-lent.steps c.value_of.new.steps
    c.loop-lent.invariant c.in-Some.ensures.steps c.in_ok-value.ensures.value (c.in_ok-extend_from_slice.ensures.items ∙ ap (λ vs. c.loop-lent.values.items ++ vs) c.from_ref.ensures.value) c.value_of.ensures.renewed c.in_ok-value.ensures.kept c.in_ok-value.ensures.steps

pub returns-clause-values : goal.returns-clause-values
returns-clause-values g c = λ before valued.
    gone_all c.args.params.now c.args.factors.now c.args.product c.args.class c.args.side c.args.values.now.items c.loop-lent.lent-iterator c.loop-lent.values.items c.loop-lent.invariant.gone c.in-None.ensures.steps.0 before valued

pub returns-clause-renewed : goal.returns-clause-renewed
returns-clause-renewed g c = c.loop-lent.invariant.renewed

pub returns-clause-kept : goal.returns-clause-kept
returns-clause-kept g c =
    all_kept c.args.params.now c.args.factors.now c.args.product c.args.class c.args.side c.args.kept.now c.args.values.now.items c.args.steps.now c.loop-lent.kept c.loop-lent.lent-iterator c.loop-lent.values.items c.loop-lent.steps
    c.loop-lent.invariant c.in-None.ensures.steps.0

pub returns-clause-steps : goal.returns-clause-steps
returns-clause-steps g c = c.loop-lent.invariant.steps
