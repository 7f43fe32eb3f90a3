use Rattle.std.proofs.Common.{◌≡◌, ◌++◌}
use Rattle.class_credit.specs.Base.{index_nets, indices_view}
use Rattle.class_credit.proofs.base.indices_among.Given as goal

abbrev pub invariant-loop-key : goal.invariant-loop-key
invariant-loop-key l = indices_view l.nets.items ++ index_nets l.key-iterator ≡ index_nets l.lent.factors
