use Rattle.std.proofs.Common.{◌≡◌, ◌+◌, ◌≤◌, ◌++◌, map, Ok}
use Rattle.std.specs.Vec.{vec_len, vec_capacity}
use Rattle.std.specs.VecDeque.{deque_len}
use Rattle.margin_run.proofs.run_printing.take_out.Given as goal

-- the texts so far and what is left are all that was made
abbrev pub invariant-loop-text : goal.invariant-loop-text
invariant-loop-text l = record {
  all : map (λ t. Ok t) l.texts.items ++ l.waiting.items ≡ l.fn.made.items;
  room : vec_len l.texts + deque_len l.waiting ≤ vec_capacity l.texts;
}

abbrev pub decreases-loop-text : goal.decreases-loop-text
decreases-loop-text l = deque_len l.waiting
