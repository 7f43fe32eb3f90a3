use Rattle.std.proofs.Common.{arith}
use Rattle.set_core.proofs.Batches.{few_rows, trade_count}
use Rattle.set_core.proofs.event.count_rows.Goals as goal

pub overflow_add-count : goal.overflow_add-count
overflow_add-count c =
    omega (arith, few_rows c.args.trades.now c.requires, trade_count c.args.trades.now c.loop-trade.trade-index c.trade-item.result c.loop-trade-test.true c.trade-item.is)
