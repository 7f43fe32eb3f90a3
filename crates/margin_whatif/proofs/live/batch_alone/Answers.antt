use Rattle.margin_whatif.proofs.Alone.{alone}
use Rattle.margin_whatif.proofs.live.batch_alone.Goals as goal

pub returns : goal.returns
returns c = alone c.args.batch.now c.trades-trades.ensures.batch
