use Rattle.std.specs.VecDeque.{deque_len}
use Rattle.margin_sample.proofs.Summaries.{Awaits}
use Rattle.margin_sample.proofs.summary.push_sets.Given as goal

-- what is added so far stands before what the sets that are left add
abbrev pub invariant-loop-set : goal.invariant-loop-set
invariant-loop-set l = Awaits l.waiting.items l.fn.sets.items l.text l.fn.text

abbrev pub decreases-loop-set : goal.decreases-loop-set
decreases-loop-set l = deque_len l.waiting
