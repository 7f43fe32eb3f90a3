use Rattle.book_range.specs.Gross.{side_size}
use Rattle.book_range.proofs.Grosses.{SideSummed}
use Rattle.book_range.proofs.gross.side_size.Given as goal

abbrev pub invariant-loop-lent : goal.invariant-loop-lent
invariant-loop-lent l = SideSummed l.params (side_size l.params l.factors l.fn.product l.fn.class l.fn.side) l.lent-iterator l.total
