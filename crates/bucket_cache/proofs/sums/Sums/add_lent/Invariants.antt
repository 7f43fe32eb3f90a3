use Rattle.std.proofs.Common.{take}
use Rattle.bucket_cache.specs.Lent.{all_rows}
use Rattle.bucket_cache.proofs.Gaining.{Gains}
use Rattle.bucket_cache.proofs.sums.Sums.add_lent.Given as goal

abbrev pub invariant-loop-index : goal.invariant-loop-index
invariant-loop-index l = Gains l.params l.fn.self l.self (all_rows (take l.index l.lent))
