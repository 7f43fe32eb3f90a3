use Rattle.book_margin.proofs.Gathering.{SideSoFar}
use Rattle.book_margin.proofs.values.push_side.Given as goal

abbrev pub invariant-loop-lent : goal.invariant-loop-lent
invariant-loop-lent g l =
    SideSoFar l.params l.factors l.fn.product l.fn.class l.fn.side l.fn.kept l.kept l.lent-iterator l.fn.values.items l.values.items l.fn.steps l.steps
