use Rattle.bucket_cache.proofs.Gaining.{still_weighed, lightens_more, all_lightened}
use Rattle.bucket_cache.proofs.exchanging.sizes_without.Goals as goal

pub loop-trade-init : goal.loop-trade-init
loop-trade-init c = λ rest e. e

pub take_rows-requires : goal.take_rows-requires
take_rows-requires c =
    still_weighed c.args.params.now c.args.sizes c.loop-trade.left c.args.gone.now c.loop-trade.trade-index c.trade-item.result c.loop-trade-test.true c.trade-item.is c.requires c.loop-trade.invariant

pub loop-trade-preserved : goal.loop-trade-preserved
loop-trade-preserved c =
    lightens_more c.args.params.now c.args.sizes c.loop-trade.left c.args.gone.now c.loop-trade.trade-index c.take_rows.new.self c.trade-item.result c.loop-trade-test.true c.trade-item.is c.loop-trade.invariant
    c.take_rows.ensures

pub returns : goal.returns
returns c = all_lightened c.args.params.now c.args.sizes c.loop-trade.left c.args.gone.now c.loop-trade.trade-index c.loop-trade-test.false c.loop-trade.invariant
