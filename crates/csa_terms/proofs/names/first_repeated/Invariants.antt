use Rattle.csa_terms.proofs.Loops.{NoneSoFar}
use Rattle.csa_terms.proofs.names.first_repeated.Given as goal

abbrev pub invariant-loop-index : goal.invariant-loop-index
invariant-loop-index l = NoneSoFar l.sets l.index
