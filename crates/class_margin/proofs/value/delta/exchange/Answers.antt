use Rattle.std.proofs.Common.{refl}
use Rattle.class_rates.specs.SimmRules.ForeignExchange.{fx_weight, fx_value}
use Rattle.class_exchange.specs.Currencies.{risky_nets}
use Rattle.class_margin.proofs.names_delta.ValueSized.{value_sized}
use Rattle.class_margin.proofs.value.delta.exchange.Goals as goal

pub returns-clause-sized : goal.returns-clause-sized
returns-clause-sized g c =
    let p = c.args.params.now in
    let currencies = risky_nets p c.args.lent.now.factors in
    value_sized c.fx_delta.result (fx_weight p) currencies (fx_value p currencies) c.fx_delta.ensures.value refl c.fx_delta.ensures.sound c.fx_delta.ensures.near
