use Rattle.std.proofs.Common.{take}
use Rattle.book_margin.specs.KeptBuckets.Touched.{Forgets}
use Rattle.bucket_cache.specs.Lent.{all_rows}
use Rattle.bucket_cache.proofs.touching.touch_lent.Given as goal

abbrev pub invariant-loop-trade : goal.invariant-loop-trade
invariant-loop-trade l = Forgets (all_rows (take l.trade-index l.lent)) l.fn.kept l.kept
