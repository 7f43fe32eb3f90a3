use Rattle.book_margin.proofs.Gathering.{Gone}
use Rattle.book_margin.proofs.measured.push_kept_side.Given as goal

abbrev pub invariant-loop-lent : goal.invariant-loop-lent
invariant-loop-lent l = Gone l.params l.factors l.fn.product l.fn.class l.fn.side l.lent-iterator l.fn.values.items l.values.items
