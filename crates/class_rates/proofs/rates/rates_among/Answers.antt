use Rattle.std.proofs.Common.{map, refl}
use Rattle.class_rates.specs.Rates.{rate_nets, rule_net}
use Rattle.class_rates.proofs.Currencies.{read_whole}
use Rattle.class_rates.proofs.RatePlaces.{read_rates}
use Rattle.class_rates.proofs.rates.rates_among.Goals as goal

pub returns : goal.returns
returns c =
    let nets = c.loop-key.nets.items in
    let lent = c.args.lent.now.factors in
    λ currency. read_rates currency lent nets
    (read_whole rate_nets refl c.loop-key.key-iterator (map rule_net nets) (rate_nets lent) c.in-None.ensures.steps.0 c.loop-key.invariant)
