use Rattle.std.proofs.Common.{refl}
use Rattle.class_rates.specs.SimmRules.ForeignExchange.{PairVolatility, fx_sigma, fx_curvature_value}
use Rattle.class_exchange.specs.Pairs.{pair_nets}
use Rattle.class_margin.proofs.curvature.ValueSized.{value_sized}
use Rattle.class_margin.proofs.value.curvature.exchange.Goals as goal

pub returns-clause-sized : goal.returns-clause-sized
returns-clause-sized g c =
    let p = c.args.params.now in
    let own = pair_nets c.args.lent.now.factors in
    value_sized c.fx_curvature.result (λ (v : PairVolatility). fx_sigma p v.pair) own (fx_curvature_value p own) c.fx_curvature.ensures.value refl c.fx_curvature.ensures.sound c.fx_curvature.ensures.near
