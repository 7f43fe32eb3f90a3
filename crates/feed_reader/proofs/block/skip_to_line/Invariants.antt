use Rattle.std.proofs.Common.{◌≡◌, ℕ, ◌-◌, List}
use Rattle.mh_io.specs.Lines.{Stop}
use Rattle.mh_io.specs.Lined.{Gave, IsStopped}
use Rattle.mh_io.specs.Limits.{most_bytes}
use Rattle.feed_reader.specs.Steps.{ArePassed}
use Rattle.feed_reader.proofs.block.skip_to_line.Given as goal

-- the lines so far are passed over
abbrev pub invariant-loop-step : goal.invariant-loop-step
invariant-loop-step g l = record {
  passed : (passed : List (List ℕ)) × ArePassed passed × Gave g.S.Source.seen l.initial.lines l.lines passed;
  again : (stop : Stop) → IsStopped l.initial.lines stop → l.lines ≡ l.initial.lines;
}

abbrev pub decreases-loop-step : goal.decreases-loop-step
decreases-loop-step g l = most_bytes - l.lines.given
