use Rattle.std.proofs.Common.{drop}
use Rattle.class_combine.proofs.Rows.{Loses}
use Rattle.class_combine.proofs.sums.AddOnSums.take_each.Given as goal

abbrev pub invariant-loop-row : goal.invariant-loop-row
invariant-loop-row l = Loses l.fn.self l.self l.rows (drop l.row-index l.rows)
