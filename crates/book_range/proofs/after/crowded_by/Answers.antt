use Rattle.std.proofs.Common.{◌∙◌, ◌<◌, length, sym, arith}
use Rattle.factor_book.specs.Places.{factors_at}
use Rattle.book_range.proofs.Coming.{row_left, row_few, row_crowded}
use Rattle.book_range.proofs.after.crowded_by.Goals as goal

pub returns-then-len_at-gt0 : goal.returns-then-len_at-gt0
returns-then-len_at-gt0 c = λ left w.
    let some : 0 < length (factors_at c.in_ok-place.place c.args.leaving.now) = omega (arith, c.len_at.ensures, c.if-len_at-gt0.true) in
    row_left left c.args.leaving.now c.args.row.now c.in_ok-place.place (sym c.in_ok-place.ensures) some

pub returns-then-is_crowded : goal.returns-then-is_crowded
returns-then-is_crowded c = λ left w.
    row_crowded left c.args.leaving.now c.args.row.now c.in_ok-place.place (sym c.in_ok-place.ensures) (sym (c.is_crowded.ensures left w) ∙ c.if-is_crowded.true)

pub returns-else-is_crowded : goal.returns-else-is_crowded
returns-else-is_crowded c = λ left w.
    row_few left c.args.leaving.now c.args.row.now c.in_ok-place.place (sym c.in_ok-place.ensures) (sym (c.is_crowded.ensures left w) ∙ c.if-is_crowded.false)
