use Rattle.std.proofs.Common.{◌∙◌, sym, ap, length, arith}
use Rattle.bucket_cache.specs.Live.{put_trades}
use Rattle.bucket_cache.specs.Entries.{trades_of, held_trades}
use Rattle.bucket_cache.proofs.changing.put_all.Goals as goal

pub put_one-requires : goal.put_one-requires
put_one-requires c = omega (arith, c.loop-trade.invariant.room, ap length c.in-Some.ensures.steps.0)

pub loop-trade-preserved : goal.loop-trade-preserved
loop-trade-preserved c = record {
  can = c.loop-trade.invariant.can;
  finite = c.loop-trade.invariant.finite;
  room = omega (arith, c.loop-trade.invariant.room, ap length c.in-Some.ensures.steps.0, c.put_one.ensures.room);
  put = ap (put_trades (held_trades c.next.new.self.rest.items)) c.put_one.ensures.put
      ∙ sym (ap (λ xs. put_trades (held_trades xs) (trades_of c.loop-trade.current.entries)) c.in-Some.ensures.steps.0) ∙ c.loop-trade.invariant.put;
}
