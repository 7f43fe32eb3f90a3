use Rattle.std.proofs.Common.{◌≡◌, ◌++◌, map}
use Rattle.class_rates.specs.Rates.{rate_nets, rule_net}
use Rattle.class_rates.proofs.rates.rates_among.Given as goal

abbrev pub invariant-loop-key : goal.invariant-loop-key
invariant-loop-key l = map rule_net l.nets.items ++ rate_nets l.key-iterator ≡ rate_nets l.lent.factors
