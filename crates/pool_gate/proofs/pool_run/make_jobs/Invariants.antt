use Rattle.std.proofs.Common.{◌≡◌, ◌+◌, ◌≤◌, ◌++◌, map}
use Rattle.std.specs.Vec.{vec_len, vec_capacity}
use Rattle.std.specs.VecDeque.{deque_len}
use Rattle.feed_runs.specs.Untaken.{fresh}
use Rattle.pool_gate.proofs.Starting.{AreNew}
use Rattle.pool_gate.proofs.pool_run.make_jobs.Given as goal

-- the lines so far have their jobs, with their seats
abbrev pub invariant-loop-lines : goal.invariant-loop-lines
invariant-loop-lines g l = record {
  lines : map (λ job. job.lines) l.jobs.items ++ l.waiting.items ≡ map fresh l.fn.sources.items;
  seats : map (λ job. job.seat) l.jobs.items ++ l.seats_left.items ≡ l.fn.seats.items;
  new : AreNew 0 l.jobs.items;
  as_many : deque_len l.seats_left ≡ deque_len l.waiting;
  count : vec_len l.jobs + deque_len l.waiting ≡ vec_len l.fn.sources;
  room : vec_len l.fn.sources ≤ vec_capacity l.jobs;
}

abbrev pub decreases-loop-lines : goal.decreases-loop-lines
decreases-loop-lines g l = deque_len l.waiting
