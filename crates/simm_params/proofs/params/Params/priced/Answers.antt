use Rattle.simm_params.proofs.WeighedBuckets.{priced_weighed}
use Rattle.simm_params.proofs.params.Params.priced.Goals as goal

pub returns-in-Equities-clause-weighed : goal.returns-in-Equities-clause-weighed
returns-in-Equities-clause-weighed c = rw c.deref.ensures (priced_weighed _ c.self.invariant.equity)

pub returns-in-Commodities-clause-weighed : goal.returns-in-Commodities-clause-weighed
returns-in-Commodities-clause-weighed c = rw c.deref.ensures (priced_weighed _ c.self.invariant.commodity)
