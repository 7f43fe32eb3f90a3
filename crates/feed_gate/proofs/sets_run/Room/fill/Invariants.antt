use Rattle.std.proofs.Common.{◌≡◌, ◌+◌, ◌≤◌, ◌++◌, map}
use Rattle.std.specs.Vec.{vec_len, vec_capacity}
use Rattle.std.specs.VecDeque.{deque_len}
use Rattle.feed_gate.proofs.sets_run.Room.fill.Given as goal

abbrev pub invariant-loop-job : goal.invariant-loop-job
invariant-loop-job g l = record {
  sources : l.sources.items ++ map (λ job. job.lines.source) l.waiting.items ≡ map (λ job. job.lines.source) l.fn.jobs.items;
  reports : l.reports.items ++ map (λ job. job.report) l.waiting.items ≡ map (λ job. job.report) l.fn.jobs.items;
  rows : map (λ row. row.items) l.rows.items ++ map (λ job. job.seats.items) l.waiting.items ≡ map (λ job. job.seats.items) l.fn.jobs.items;
  source_room : vec_len l.sources + deque_len l.waiting ≤ vec_capacity l.sources;
  report_room : vec_len l.reports + deque_len l.waiting ≤ vec_capacity l.reports;
  row_room : vec_len l.rows + deque_len l.waiting ≤ vec_capacity l.rows;
}

abbrev pub decreases-loop-job : goal.decreases-loop-job
decreases-loop-job g l = deque_len l.waiting
