use Rattle.std.proofs.Common.{drop}
use Rattle.bucket_cache.specs.Lent.{all_rows}
use Rattle.bucket_cache.proofs.Gaining.{Loses}
use Rattle.bucket_cache.proofs.sums.Sums.take_lent.Given as goal

abbrev pub invariant-loop-trade : goal.invariant-loop-trade
invariant-loop-trade l = Loses l.params l.fn.self l.self (all_rows l.lent) (all_rows (drop l.trade-index l.lent))
