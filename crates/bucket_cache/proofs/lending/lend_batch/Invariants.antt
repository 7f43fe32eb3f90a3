use Rattle.std.proofs.Common.{◌≡◌, take}
use Rattle.bucket_cache.specs.Entries.{lent_lists, row_lists}
use Rattle.bucket_cache.proofs.lending.lend_batch.Given as goal

abbrev pub invariant-loop-trade : goal.invariant-loop-trade
invariant-loop-trade l = lent_lists l.lent.items ≡ row_lists (take l.trade-index l.batch)
