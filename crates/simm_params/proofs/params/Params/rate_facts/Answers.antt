use Rattle.std.proofs.Common.{subst}
use Rattle.simm_params.specs.Facts.{IsParams}
use Rattle.simm_params.proofs.Correlated.{correlated}
use Rattle.simm_params.proofs.WeighedRates.{rates_weighed}
use Rattle.simm_params.proofs.params.Params.rate_facts.Goals as goal

pub returns-clause-weighed : goal.returns-clause-weighed
returns-clause-weighed c currency = let kept : IsParams c.args.self.now = subst IsParams c.self.view_is c.self.invariant in rates_weighed c.args.self.now currency kept.ir

pub returns-clause-rho : goal.returns-clause-rho
returns-clause-rho c = let kept : IsParams c.args.self.now = subst IsParams c.self.view_is c.self.invariant in correlated 12 c.args.self.now.ir.rho kept.ir.rho kept.ir.rho_mirrored
