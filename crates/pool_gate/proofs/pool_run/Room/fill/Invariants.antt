use Rattle.std.proofs.Common.{◌≡◌, ◌+◌, ◌≤◌, ◌++◌, map}
use Rattle.std.specs.List.{AllByRecursion}
use Rattle.std.specs.Vec.{vec_len, vec_capacity}
use Rattle.std.specs.VecDeque.{deque_len}
use Rattle.pool_gate.specs.Share.{IsPart, reported}
use Rattle.pool_gate.proofs.Gathering.{Gathers}
use Rattle.pool_gate.proofs.pool_run.Room.fill.Given as goal

abbrev pub invariant-loop-job : goal.invariant-loop-job
invariant-loop-job g l = record {
  sources : l.sources.items ++ map (λ job. job.lines.source) l.waiting.items ≡ map (λ job. job.lines.source) l.fn.jobs.items;
  reports : l.reports.items ++ map reported l.waiting.items ≡ map reported l.fn.jobs.items;
  seats : Gathers l.pool (map (λ job. job.seat) l.waiting.items) (map (λ job. job.seat) l.fn.jobs.items) l.all;
  parts : AllByRecursion (λ job. IsPart l.pool job.seat) l.waiting.items;
  source_room : vec_len l.sources + deque_len l.waiting ≤ vec_capacity l.sources;
  report_room : vec_len l.reports + deque_len l.waiting ≤ vec_capacity l.reports;
}

abbrev pub decreases-loop-job : goal.decreases-loop-job
decreases-loop-job g l = deque_len l.waiting
