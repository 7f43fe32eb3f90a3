use Rattle.std.proofs.Common.{◌≡◌, ◌++◌, map}
use Rattle.class_exchange.specs.Pairs.{pair_nets, tenor_view}
use Rattle.class_exchange.proofs.pairs.tenors_among.Given as goal

abbrev pub invariant-loop-key : goal.invariant-loop-key
invariant-loop-key l = map tenor_view l.nets.items ++ pair_nets l.key-iterator ≡ pair_nets l.lent.factors
