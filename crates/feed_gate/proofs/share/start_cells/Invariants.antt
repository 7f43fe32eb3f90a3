use Rattle.std.proofs.Common.{◌≡◌, List, ◌++◌}
use Rattle.std.specs.List.{AllZip}
use Rattle.std.specs.VecDeque.{deque_len}
use Rattle.feed_events.specs.SetCore.Set.{Set}
use Rattle.feed_gate.specs.Share.{Starts, IsUnused}
use Rattle.feed_gate.proofs.share.start_cells.Given as goal

-- the sets so far are started
abbrev pub invariant-loop-set : goal.invariant-loop-set
invariant-loop-set l = record {
  started : List Set;
  sets : started ++ l.waiting.items ≡ l.fn.sets.items;
  cells : AllZip (Starts l.callers) started l.cells.items;
  seats : AllZip (IsUnused 0 l.callers) l.cells.items l.seats.items;
}

abbrev pub decreases-loop-set : goal.decreases-loop-set
decreases-loop-set l = deque_len l.waiting
