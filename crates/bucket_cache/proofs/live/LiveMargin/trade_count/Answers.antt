use Rattle.std.proofs.Common.{arith}
use Rattle.std.proofs.lemmas.List.{length-map}
use Rattle.bucket_cache.specs.Entries.{trade_of, trades_of}
use Rattle.bucket_cache.proofs.Sizes.{few_trades}
use Rattle.bucket_cache.proofs.live.LiveMargin.trade_count.Goals as goal

pub overflow_cast-result : goal.overflow_cast-result
overflow_cast-result c =
    omega (arith, c.len.ensures.len, length-map c.self.inside.trades.entries trade_of, few_trades c.self.inside.params (trades_of c.self.inside.trades.entries) c.self.invariant.summed.live)
