use Rattle.simm_params.proofs.LeastRate.{least_more}
use Rattle.simm_params.proofs.rates.Rates.least_with.Goals as goal

pub loop-rate-preserved : goal.loop-rate-preserved
loop-rate-preserved c = least_more c.args.rate.0 c.loop-rate.least.0 c.lesser-least.result.0 c.deref-rate-items.result.now c.loop-rate.rate-index c.loop-rate-test.true c.loop-rate.invariant c.lesser-least.ensures
