use Rattle.std.proofs.Common.{◌-◌, List}
use Rattle.mh_io.specs.Limits.{most_bytes}
use Rattle.pool_gate.specs.Met.{Met}
use Rattle.pool_gate.specs.Jobs.{RanTo}
use Rattle.pool_gate.proofs.feed.run_feed.Given as goal

-- what became of the lines so far
abbrev pub invariant-loop-end : goal.invariant-loop-end
invariant-loop-end g l = (mets : List Met) × RanTo g.S.Source.seen l.terms l.fn.job l.job mets

abbrev pub decreases-loop-end : goal.decreases-loop-end
decreases-loop-end g l = most_bytes - l.job.lines.given
