use Rattle.std.proofs.Common.{◌≡◌, map, rules}
use Rattle.class_exchange.specs.Currencies.{currency_net, risky_nets}
use Rattle.class_exchange.proofs.RiskyCurrencies.{views, all_risky, are_currencies}
use Rattle.class_exchange.proofs.currencies.risky_currencies.Goals as goal

pub returns-clause-nets : goal.returns-clause-nets
returns-clause-nets c =
    let p = c.args.params.now in
    let amounts = risky_nets p c.args.lent.now.factors in
    let made : c.loop-key.nets.items ≡ map (currency_net p) amounts = search rules in
    views p c.args.lent.now.factors c.loop-key.nets.items made

pub returns-clause-risky : goal.returns-clause-risky
returns-clause-risky c =
    let p = c.args.params.now in
    let amounts = risky_nets p c.args.lent.now.factors in
    let made : c.loop-key.nets.items ≡ map (currency_net p) amounts = search rules in
    all_risky p c.args.lent.now.factors c.loop-key.nets.items made

pub returns-clause-ready : goal.returns-clause-ready
returns-clause-ready c =
    let p = c.args.params.now in
    let amounts = risky_nets p c.args.lent.now.factors in
    let made : c.loop-key.nets.items ≡ map (currency_net p) amounts = search rules in
    are_currencies p c.args.lent.now.factors c.loop-key.nets.items made
