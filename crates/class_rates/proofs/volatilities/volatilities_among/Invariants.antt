use Rattle.std.proofs.Common.{◌≡◌, ◌++◌, map}
use Rattle.class_rates.specs.Volatilities.{volatility_nets, rule_net}
use Rattle.class_rates.proofs.volatilities.volatilities_among.Given as goal

abbrev pub invariant-loop-key : goal.invariant-loop-key
invariant-loop-key l = map rule_net l.nets.items ++ volatility_nets l.key-iterator ≡ volatility_nets l.lent.factors
