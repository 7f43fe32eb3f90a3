use Rattle.std.proofs.Common.{subst}
use Rattle.std.proofs.lemmas.List.{take_all}
use Rattle.book_range.specs.Firsts.{IsFirst, IsNewAt}
use Rattle.book_range.proofs.Coming.{new_none, new_row}
use Rattle.book_range.proofs.after.crowded_in.Goals as goal

pub loop-row-init : goal.loop-row-init
loop-row-init c = λ left w. new_none left c.args.leaving.now

pub loop-row-preserved : goal.loop-row-preserved
loop-row-preserved c = λ left w.
    new_row left c.args.leaving.now c.args.rows.now c.loop-row.row-index c.row-item.result c.loop-row.first c.crowded_by.result c.earlier-first.result c.loop-row-test.true c.row-item.is
    c.earlier-first.ensures (c.loop-row.invariant left w) (c.crowded_by.ensures left w)

pub returns : goal.returns
returns c = λ left w.
    subst (λ xs. IsFirst left (IsNewAt c.args.leaving.now xs) c.loop-row.first) (take_all c.loop-row.row-index c.args.rows.now c.loop-row-test.false) (c.loop-row.invariant left w)
