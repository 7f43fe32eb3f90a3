use Rattle.std.proofs.Common.{◌≡◌, ◌+◌, ◌≤◌, map, take}
use Rattle.std.specs.Prelude.{sum_by}
use Rattle.bucket_cache.specs.Entries.{trades_of}
use Rattle.bucket_cache.specs.Without.{total_without, steps_without}
use Rattle.bucket_cache.proofs.live.LiveMargin.each_without.Given as goal

-- the sums are those of the book, and so many names are done
abbrev pub invariant-loop-name : goal.invariant-loop-name
invariant-loop-name g l =
    (l.sums ≡ l.self-inside.sums)
    × (l.totals.items ≡ map (total_without l.self-inside.params (trades_of l.self-inside.trades.entries)) (take l.name-index l.names))
    × (l.steps ≤ l.initial.steps + sum_by (steps_without l.self-inside.params l.self-inside.kept (trades_of l.self-inside.trades.entries)) (take l.name-index l.names))
