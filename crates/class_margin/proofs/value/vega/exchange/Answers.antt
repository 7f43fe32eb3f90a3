use Rattle.class_rates.specs.SimmRules.ForeignExchange.{PairVolatility, fx_sigma}
use Rattle.class_exchange.specs.Pairs.{pair_nets}
use Rattle.class_margin.proofs.vega.ValueSized.{value_sized}
use Rattle.class_margin.proofs.value.vega.exchange.Goals as goal

pub returns-clause-sized : goal.returns-clause-sized
returns-clause-sized g c = value_sized c.fx_vega.result (λ (v : PairVolatility). fx_sigma c.args.params.now v.pair) (pair_nets c.args.lent.now.factors) c.fx_vega.ensures.sound c.fx_vega.ensures.near
