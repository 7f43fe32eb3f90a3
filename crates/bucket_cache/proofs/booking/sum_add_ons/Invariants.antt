use Rattle.std.proofs.Common.{◌≡◌, take}
use Rattle.book_margin.specs.ClassCombine.Sums.{sums_of}
use Rattle.bucket_cache.specs.Lent.{all_rows}
use Rattle.bucket_cache.proofs.booking.sum_add_ons.Given as goal

abbrev pub invariant-loop-trade : goal.invariant-loop-trade
invariant-loop-trade l = l.add_ons ≡ sums_of (all_rows (take l.trade-index l.lent))
