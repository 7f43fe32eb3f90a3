use Rattle.book_range.proofs.Grosses.{Summed}
use Rattle.book_range.proofs.gross.place_size.Given as goal

abbrev pub invariant-loop-key : goal.invariant-loop-key
invariant-loop-key l = Summed l.params l.lent.place l.lent.factors l.key-iterator l.total
