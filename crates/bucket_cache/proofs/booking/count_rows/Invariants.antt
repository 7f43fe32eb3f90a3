use Rattle.std.proofs.Common.{◌≡◌, length, take}
use Rattle.bucket_cache.specs.Lent.{all_rows}
use Rattle.bucket_cache.proofs.booking.count_rows.Given as goal

abbrev pub invariant-loop-trade : goal.invariant-loop-trade
invariant-loop-trade l = l.count ≡ length (all_rows (take l.trade-index l.lent))
