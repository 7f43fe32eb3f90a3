use Rattle.std.proofs.Common.{◌≡◌, map, take}
use Rattle.bucket_cache.specs.Live.{rows_in}
use Rattle.bucket_cache.specs.Entries.{trades_of, lent_lists}
use Rattle.bucket_cache.proofs.lending.lend_replaced.Given as goal

abbrev pub invariant-loop-trade : goal.invariant-loop-trade
invariant-loop-trade l = lent_lists l.lent.items ≡ map (λ t. rows_in (trades_of l.current.entries) t.trade) (take l.trade-index l.batch)
