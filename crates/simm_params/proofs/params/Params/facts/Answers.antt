use Rattle.std.proofs.Common.{subst}
use Rattle.simm_params.specs.Facts.{IsParams}
use Rattle.simm_params.proofs.Weighed.{weighed}
use Rattle.simm_params.proofs.params.Params.facts.Goals as goal

pub returns-clause-weighed : goal.returns-clause-weighed
returns-clause-weighed c currency = let kept : IsParams c.args.self.now = subst IsParams c.self.view_is c.self.invariant in weighed c.args.self.now currency kept.fx
