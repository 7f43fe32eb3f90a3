use Rattle.std.proofs.Common.{◌≡◌, ◌++◌}
use Rattle.class_priced.specs.Names.{name_nets, names_view}
use Rattle.class_priced.proofs.names.delta_names.Given as goal

abbrev pub invariant-loop-key : goal.invariant-loop-key
invariant-loop-key l = names_view l.nets.items ++ name_nets l.key-iterator ≡ name_nets l.lent.factors
