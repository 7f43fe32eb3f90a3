use Rattle.std.proofs.Common.{◌≡◌, ◌+◌, ◌≤◌, ◌++◌, map}
use Rattle.std.specs.Vec.{vec_len, vec_capacity}
use Rattle.std.specs.VecDeque.{deque_len, deque_capacity}
use Rattle.feed_runs.specs.Untaken.{fresh}
use Rattle.feed_runs.proofs.source_lines.lines_of_all.Given as goal

-- the sources so far have their lines
abbrev pub invariant-loop-source : goal.invariant-loop-source
invariant-loop-source g l = record {
  lines : l.all.items ++ map fresh l.waiting.items ≡ map fresh l.fn.sources.items;
  count : vec_len l.all + deque_len l.waiting ≡ vec_len l.fn.sources;
  room : vec_len l.fn.sources ≤ vec_capacity l.all;
  place : vec_len l.fn.sources ≤ deque_capacity l.waiting;
}

abbrev pub decreases-loop-source : goal.decreases-loop-source
decreases-loop-source g l = deque_len l.waiting
