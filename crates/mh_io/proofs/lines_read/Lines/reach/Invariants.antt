use Rattle.std.proofs.Common.{◌≡◌, ◌-◌, ◌≤◌, length, take}
use Rattle.mh_io.specs.Lines.{Stop}
use Rattle.mh_io.specs.Lined.{IsStopped}
use Rattle.mh_io.specs.LinesSteps.{HasNoLf, TookMore, turns_left}
use Rattle.mh_io.specs.Limits.{most_bytes}
use Rattle.mh_io.proofs.lines_read.Lines.reach.Given as goal

abbrev pub invariant-loop-front : goal.invariant-loop-front
invariant-loop-front g l = record {
  there : l.looked ≤ length l.self.pending;
  near : l.looked ≤ most_bytes - l.self.passed;
  text : HasNoLf (take l.looked l.self.pending);
  took : TookMore g.S.Source.seen l.initial.self l.self;
  again : (stop : Stop) → IsStopped l.initial.self stop → l.self ≡ l.initial.self;
}

abbrev pub decreases-loop-front : goal.decreases-loop-front
decreases-loop-front g l = turns_left l.self
