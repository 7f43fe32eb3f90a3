use Rattle.std.proofs.Common.{◌≡◌, ◌+◌, ◌-◌}
use Rattle.mh_io.specs.Limits.{most_bytes}
use Rattle.audit_file.specs.Steps.{IsSound}
use Rattle.audit_file.proofs.Readings.{Comes}
use Rattle.audit_file.proofs.verifying.verify_by.Given as goal

-- what all lines come to is what those come to that aren't given yet
abbrev pub invariant-loop-lines : goal.invariant-loop-lines
invariant-loop-lines g l = record {
  comes : Comes g.S.Source.seen (g.M.Replay.rule (g.M.Replay.base l.fn.machine)) l.names l.initial.lines l.lines (record { at = l.at; log = g.M.Replay.log l.machine; reply = l.reply });
  sound : IsSound l.names (l.lines.given + 1) l.at.place;
  base : g.M.Replay.base l.machine ≡ g.M.Replay.base l.fn.machine;
}

abbrev pub decreases-loop-lines : goal.decreases-loop-lines
decreases-loop-lines g l = most_bytes - l.lines.given
