use Rattle.std.proofs.Common.{◌≡◌, ◌++◌}
use Rattle.csa_terms.specs.Held.{haircuts_at}
use Rattle.csa_terms.proofs.haircut_table.HaircutTable.copy.Given as goal

abbrev pub invariant-loop-class : goal.invariant-loop-class
invariant-loop-class l = l.copy ++ haircuts_at l.class-iterator ≡ l.self
