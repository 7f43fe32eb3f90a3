use Rattle.std.proofs.Common.{◌-◌, ◌≤◌, length, take}
use Rattle.mh_io.specs.Told.{Appends}
use Rattle.mh_io.proofs.writing.put_all.Given as goal

-- the front so far went out
abbrev pub invariant-loop-put : goal.invariant-loop-put
invariant-loop-put g l = (l.put ≤ length l.bytes) × ((g.K.Sink.seen l.initial.sink).faults ≤ (g.K.Sink.seen l.sink).faults) × Appends (g.K.Sink.seen l.initial.sink).holds (g.K.Sink.seen l.sink).holds (take l.put l.bytes)

abbrev pub decreases-loop-put : goal.decreases-loop-put
decreases-loop-put g l = length l.bytes - l.put
