use Rattle.std.proofs.Common.{subst}
use Rattle.simm_params.specs.Facts.{IsParams}
use Rattle.simm_params.proofs.WeighedBuckets.{priced_class_weighed}
use Rattle.simm_params.proofs.params.Params.priced_facts.Goals as goal

pub returns : goal.returns
returns c class = priced_class_weighed c.args.self.now class (subst IsParams c.self.view_is c.self.invariant)
