use Rattle.std.proofs.Common.{take}
use Rattle.book_margin.specs.FactorBook.Netting.{AreNets}
use Rattle.bucket_cache.specs.Lent.{all_rows}
use Rattle.bucket_cache.proofs.booking.net.Given as goal

abbrev pub invariant-loop-trade : goal.invariant-loop-trade
invariant-loop-trade l = AreNets (all_rows (take l.trade-index l.lent)) l.rows
