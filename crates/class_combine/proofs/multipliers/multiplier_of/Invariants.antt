use Rattle.std.proofs.Common.{drop}
use Rattle.class_combine.proofs.Multiplying.{Searched}
use Rattle.class_combine.proofs.multipliers.multiplier_of.Given as goal

abbrev pub invariant-loop-row : goal.invariant-loop-row
invariant-loop-row l = Searched l.product l.parameters (drop l.row-index l.parameters)
