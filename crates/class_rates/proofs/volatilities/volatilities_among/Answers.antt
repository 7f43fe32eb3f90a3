use Rattle.std.proofs.Common.{map, refl}
use Rattle.class_rates.specs.Volatilities.{rule_net, volatility_nets}
use Rattle.class_rates.proofs.Currencies.{read_whole}
use Rattle.class_rates.proofs.VolatilityPlaces.{read_volatilities}
use Rattle.class_rates.proofs.volatilities.volatilities_among.Goals as goal

pub returns : goal.returns
returns c =
    let nets = c.loop-key.nets.items in
    let lent = c.args.lent.now.factors in
    λ currency. read_volatilities currency lent nets
    (read_whole volatility_nets refl c.loop-key.key-iterator (map rule_net nets) (volatility_nets lent) c.in-None.ensures.steps.0 c.loop-key.invariant)
