use Rattle.class_rates.specs.Volatilities.{volatilities_among}
use Rattle.class_margin.proofs.vega.ValueSized.{risk_sized}
use Rattle.class_margin.proofs.value.vega.rates.Goals as goal

pub returns-clause-sized : goal.returns-clause-sized
returns-clause-sized g c = risk_sized c.currency_vega.result (volatilities_among c.args.currency.now c.args.lent.now.factors) c.currency_vega.ensures.sound c.currency_vega.ensures.near
