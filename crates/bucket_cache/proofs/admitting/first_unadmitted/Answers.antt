use Rattle.std.proofs.Common.{ap, length, arith}
use Rattle.bucket_cache.proofs.Lives.{few_in_batch, few_in_trade}
use Rattle.bucket_cache.proofs.admitting.first_unadmitted.Goals as goal

pub unadmitted_row-requires : goal.unadmitted_row-requires
unadmitted_row-requires c =
    omega (arith, ap length c.as_slice.ensures, few_in_trade c.args.trades.now c.loop-index.index c.index-trades-index.result c.requires c.loop-index-test.true c.index-trades-index.is)

pub overflow_cast-result : goal.overflow_cast-result
overflow_cast-result c = omega (arith, few_in_batch c.args.trades.now c.requires, c.loop-index-test.true)

pub overflow_add-result : goal.overflow_add-result
overflow_add-result c = omega (arith, few_in_batch c.args.trades.now c.requires, c.loop-index-test.true)
