use Rattle.std.proofs.Common.{◌≡◌, take}
use Rattle.bucket_cache.specs.Entries.{held_trades}
use Rattle.bucket_cache.proofs.held_rows.hold_trades.Given as goal

-- the trades held so far are the batch's so far
abbrev pub invariant-loop-index : goal.invariant-loop-index
invariant-loop-index l = held_trades l.held.items ≡ take l.index l.trades
