use Rattle.simm_params.proofs.WeighedBuckets.{credit_weighed}
use Rattle.simm_params.proofs.params.Params.credit.Goals as goal

pub returns-in-Qualifying-clause-weighed : goal.returns-in-Qualifying-clause-weighed
returns-in-Qualifying-clause-weighed c = rw c.deref.ensures (credit_weighed _ c.self.invariant.credit_q)

pub returns-in-NonQualifying-clause-weighed : goal.returns-in-NonQualifying-clause-weighed
returns-in-NonQualifying-clause-weighed c = rw c.deref.ensures (credit_weighed _ c.self.invariant.credit_nq)
