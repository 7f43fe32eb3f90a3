use Rattle.std.proofs.Common.{◌≡◌, ◌-◌, ◌≤◌, List}
use Rattle.feed_events.specs.FeedReader.MhIo.Limits.{most_bytes}
use Rattle.feed_gate.specs.Met.{Met}
use Rattle.feed_gate.specs.Jobs.{RanTo}
use Rattle.feed_gate.proofs.feed.run_feed.Given as goal

-- what became of the items so far
abbrev pub invariant-loop-end : goal.invariant-loop-end
invariant-loop-end g l =
    ((mets : List Met) × RanTo g.S.Source.seen l.names l.fn.job l.job mets)
    × (l.job.number ≡ l.fn.job.number) × (l.job.report.done ≤ l.job.lines.given)

abbrev pub decreases-loop-end : goal.decreases-loop-end
decreases-loop-end g l = most_bytes - l.job.lines.given
