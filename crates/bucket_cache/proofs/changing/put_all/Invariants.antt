use Rattle.std.proofs.Common.{◌≡◌, ◌≤◌, length}
use Rattle.indexmap.specs.IndexMap.{spare}
use Rattle.bucket_cache.specs.Live.{put_trades}
use Rattle.bucket_cache.specs.Entries.{trades_of, held_trades}
use Rattle.bucket_cache.proofs.changing.put_all.Given as goal

abbrev pub invariant-loop-trade : goal.invariant-loop-trade
invariant-loop-trade l = record {
  can : (goal.iterator-loop-trade).can_next l.trade-iterator;
  finite : (goal.iterator-loop-trade).is_finite l.trade-iterator;
  room : length l.trade-iterator.rest.items ≤ spare l.current;
  put : put_trades (held_trades l.trade-iterator.rest.items) (trades_of l.current.entries) ≡ put_trades (held_trades l.initial.trade-iterator.rest.items) (trades_of l.initial.current.entries);
}
