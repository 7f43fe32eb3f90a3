use Rattle.std.proofs.Common.{sym, ap}
use Rattle.simm_rules.specs.Params.{Params}
use Rattle.simm_params.proofs.WeighedPairs.{pair_weighed}
use Rattle.simm_params.proofs.params.Params.pair_facts.Goals as goal

pub returns : goal.returns
returns c pair =
    pair_weighed c.self.inside.tables.value.fx.volatilities.thresholds c.self.invariant.fx.vega_threshold c.self.invariant.fx.vega_thick c.args.self.now pair
    (ap (λ (p : Params). p.fx.vega_threshold) (sym c.self.view_is))
