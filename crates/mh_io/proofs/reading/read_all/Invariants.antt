use Rattle.std.proofs.Common.{◌≡◌, ◌-◌, ◌≤◌, length, vec_len}
use Rattle.mh_io.specs.Source.{Takes}
use Rattle.mh_io.specs.Limits.{most_bytes}
use Rattle.mh_io.specs.declared.reading.TheConstants.{CHUNK_BYTES}
use Rattle.mh_io.proofs.reading.read_all.Given as goal

-- the bytes so far were taken, and are not too many
abbrev pub invariant-loop-bytes : goal.invariant-loop-bytes
invariant-loop-bytes g l = (length l.bytes ≤ most_bytes) × (vec_len l.chunk ≡ CHUNK_BYTES) × ((g.S.Source.seen l.initial.source).faults ≤ (g.S.Source.seen l.source).faults) × ((g.S.Source.seen l.source).name ≡ (g.S.Source.seen l.initial.source).name) × Takes (g.S.Source.seen l.initial.source) (g.S.Source.seen l.source) l.bytes

-- each turn takes at least one byte of those that may come
abbrev pub decreases-loop-bytes : goal.decreases-loop-bytes
decreases-loop-bytes g l = most_bytes - length l.bytes
