use Rattle.std.proofs.Common.{◌≡◌, map, take}
use Rattle.bucket_cache.specs.Live.{rows_in}
use Rattle.bucket_cache.specs.Entries.{trades_of, lent_lists}
use Rattle.bucket_cache.proofs.lending.lend_named.Given as goal

abbrev pub invariant-loop-name : goal.invariant-loop-name
invariant-loop-name l = lent_lists l.lent.items ≡ map (λ name. rows_in (trades_of l.current.entries) name.now) (take l.name-index l.names)
