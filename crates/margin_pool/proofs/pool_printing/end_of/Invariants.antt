use Rattle.std.proofs.Common.{◌≡◌, drop}
use Rattle.margin_pool.specs.Pool.{end_of}
use Rattle.margin_pool.proofs.pool_printing.end_of.Given as goal

-- the feeds so far ended whole
abbrev pub invariant-loop-report : goal.invariant-loop-report
invariant-loop-report l = end_of (drop l.report-index l.reports) ≡ end_of l.reports
