use Rattle.std.proofs.Common.{◌≡◌, ◌++◌, map}
use Rattle.class_priced.specs.Names.{volatility_nets}
use Rattle.class_priced.specs.Sums.{tenor_view}
use Rattle.class_priced.proofs.names.tenors_among.Given as goal

abbrev pub invariant-loop-key : goal.invariant-loop-key
invariant-loop-key l = map tenor_view l.nets.items ++ volatility_nets l.key-iterator ≡ volatility_nets l.lent.factors
