use Rattle.std.proofs.Common.{take}
use Rattle.kept_buckets.specs.Touched.{Forgets}
use Rattle.kept_buckets.proofs.kept.KeptBuckets.touch.Given as goal

abbrev pub invariant-loop-row : goal.invariant-loop-row
invariant-loop-row l = Forgets (take l.row-index l.rows) l.fn.self l.self
