use Rattle.std.proofs.Common.{◌∙◌, Some, true, false, sym, ap}
use Rattle.book_range.proofs.Coming.{earlier_some}
use Rattle.book_range.proofs.after.earlier.Goals as goal
use Rattle.book_range.proofs.after.earlier.Goals.{then-is_before, else-is_before}

pub returns-after-is_before : goal.returns-after-is_before
returns-after-is_before c =
    let place = c.in-Some-Some.place in
    let other = c.in-Some-Some.other in
    elim c.if-is_before.branch [
      | then-is_before w ↦ ap Some w.result-is ∙ sym (earlier_some c.args.first c.args.second place other true c.in-Some-Some.is-0 c.in-Some-Some.is-1 (sym c.is_before.ensures ∙ w.if-is_before.true))
      | else-is_before w ↦ ap Some w.result-is ∙ sym (earlier_some c.args.first c.args.second place other false c.in-Some-Some.is-0 c.in-Some-Some.is-1 (sym c.is_before.ensures ∙ w.if-is_before.false))
    ]
