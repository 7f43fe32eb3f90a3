use Rattle.std.proofs.Common.{◌≡◌, ◌+◌, ◌≤◌, ◌++◌, map}
use Rattle.std.specs.Vec.{vec_len}
use Rattle.std.specs.VecDeque.{deque_len, deque_capacity}
use Rattle.feed_runs.proofs.source_lines.hand_back.Given as goal

abbrev pub invariant-loop-lines : goal.invariant-loop-lines
invariant-loop-lines g l = record {
  sources : map (λ lines. lines.source) l.left.items ++ l.sources.items ≡ map (λ lines. lines.source) l.fn.made.items ++ l.fn.waiting.items;
  room : deque_len l.sources + vec_len l.left ≤ deque_capacity l.sources;
}

abbrev pub decreases-loop-lines : goal.decreases-loop-lines
decreases-loop-lines g l = vec_len l.left
