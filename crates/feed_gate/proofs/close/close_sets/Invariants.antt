use Rattle.std.proofs.Common.{◌≡◌, ◌+◌, ◌≤◌, List, ◌++◌, map, take, drop}
use Rattle.std.specs.List.{AllZip}
use Rattle.std.specs.Vec.{vec_len}
use Rattle.std.specs.VecDeque.{deque_len, deque_capacity}
use Rattle.feed_gate.specs.Seats.{Cell}
use Rattle.feed_gate.specs.Share.{Closes, AreKeptIn}
use Rattle.feed_gate.proofs.close.close_sets.Given as goal

-- the cells behind the open ones are closed, and their seats are taken off the rows
abbrev pub invariant-loop-cell : goal.invariant-loop-cell
invariant-loop-cell l = record {
  closed : List Cell;
  cells : l.unclosed.items ++ closed ≡ l.fn.cells.items;
  rows : map (λ row. row.items) l.left.items ≡ map (take (vec_len l.unclosed)) (map (λ row. row.items) l.fn.rows.items);
  sets : AllZip (Closes (vec_len l.fn.rows)) closed l.sets.items;
  kept : AreKeptIn 0 (map (drop (vec_len l.unclosed)) (map (λ row. row.items) l.fn.rows.items)) l.sets.items;
  room : vec_len l.unclosed + deque_len l.sets ≤ deque_capacity l.sets;
}

abbrev pub decreases-loop-cell : goal.decreases-loop-cell
decreases-loop-cell l = vec_len l.unclosed
