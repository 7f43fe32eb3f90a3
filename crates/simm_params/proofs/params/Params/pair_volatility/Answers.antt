use Rattle.std.proofs.Common.{◌∙◌}
use Rattle.simm_params.proofs.Sigmas.{sigma_is}
use Rattle.simm_params.proofs.params.Params.pair_volatility.Goals as goal

pub returns-clause-value : goal.returns-clause-value
returns-clause-value c =
    c.fx_sigma.ensures.value ∙ sigma_is c.args.self.now c.args.pair _ _ _ _ c.first.ensures c.second.ensures c.volatility_category-first.ensures c.volatility_category-second.ensures
