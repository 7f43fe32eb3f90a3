use Rattle.std.proofs.Common.{◌≡◌, ◌++◌}
use Rattle.bucket_cache.proofs.copying.copy_trades.Given as goal

abbrev pub invariant-loop-name : goal.invariant-loop-name
invariant-loop-name l = l.trades.entries ++ l.name-iterator ≡ l.current.entries
