use Rattle.std.proofs.Common.{◌∙◌, true, false, Some, None, sym, ap}
use Rattle.std.specs.Prelude.{is_some}
use Rattle.book_range.specs.Firsts.{fault_at}
use Rattle.book_range.proofs.Coming.{left_first, found_next, found_first, found_none}
use Rattle.book_range.proofs.after.crowded_left.Goals as goal

pub loop-lent-init : goal.loop-lent-init
loop-lent-init c = λ left w.
    found_first (λ q. is_some (fault_at left q)) c.args.leaving.now c.into_iter-lent-iterator.result (c.into_iter-lent-iterator.ensures.into_iter_gives ∙ c.places-lent-items.ensures.rest)

pub returns-then-is_crowded : goal.returns-then-is_crowded
returns-then-is_crowded c = λ left w.
    left_first left c.args.leaving.now (Some c.place-place.result)
    (sym (c.loop-lent.invariant left w)
    ∙ found_next (λ q. is_some (fault_at left q)) c.loop-lent.lent-iterator c.next.new.self c.in-Some.lent.now true c.in-Some.ensures.steps
    (ap (λ q. is_some (fault_at left q)) (sym c.place-place.ensures) ∙ sym (c.is_crowded.ensures left w) ∙ c.if-is_crowded.true)
    ∙ ap Some (sym c.place-place.ensures))

pub loop-lent-preserved : goal.loop-lent-preserved
loop-lent-preserved c = λ left w.
    sym (found_next (λ q. is_some (fault_at left q)) c.loop-lent.lent-iterator c.next.new.self c.in-Some.lent.now false c.in-Some.ensures.steps
    (ap (λ q. is_some (fault_at left q)) (sym c.place-place.ensures) ∙ sym (c.is_crowded.ensures left w) ∙ c.if-is_crowded.false))
    ∙ c.loop-lent.invariant left w

pub returns : goal.returns
returns c = λ left w.
    left_first left c.args.leaving.now None (sym (c.loop-lent.invariant left w) ∙ found_none (λ q. is_some (fault_at left q)) c.loop-lent.lent-iterator c.in-None.ensures.steps.0)
