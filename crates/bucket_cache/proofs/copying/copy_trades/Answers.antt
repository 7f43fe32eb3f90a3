use Rattle.std.specs.Map.Iter.{deref_pair}
use Rattle.std.proofs.lemmas.Map.Iter.{rest_more}
use Rattle.bucket_cache.proofs.Copies.{next_held}
use Rattle.bucket_cache.proofs.copying.copy_trades.Goals as goal

pub loop-name-preserved-in_ok-insert : goal.loop-name-preserved-in_ok-insert
loop-name-preserved-in_ok-insert c =
    next_held c.loop-name.trades.entries c.next.new.self c.loop-name.name-iterator c.args.current.now.entries c.insert.new.self.entries c.in-Some.name.now _ c.in-Some.rows.now _ c.into_iter-name-iterator.ensures.into_iter_gives.4
    (rest_more deref_pair c.loop-name.name-iterator c.next.new.self c.next.result (c.in-Some.name, c.in-Some.rows) c.in-Some.is c.next.ensures.steps) c.in_ok-copy.ensures c.in_ok-share.ensures
    c.in_ok-insert.ensures.entries c.loop-name.invariant

pub loop-name-preserved : goal.loop-name-preserved
loop-name-preserved c =
    next_held c.loop-name.trades.entries c.next.new.self c.loop-name.name-iterator c.args.current.now.entries c.insert.new.self.entries c.in-Some.name.now _ c.in-Some.rows.now _ c.into_iter-name-iterator.ensures.into_iter_gives.4
    (rest_more deref_pair c.loop-name.name-iterator c.next.new.self c.next.result (c.in-Some.name, c.in-Some.rows) c.in-Some.is c.next.ensures.steps) c.in_ok-copy.ensures c.in_ok-share.ensures
    c.in_ok-insert.ensures.entries c.loop-name.invariant
