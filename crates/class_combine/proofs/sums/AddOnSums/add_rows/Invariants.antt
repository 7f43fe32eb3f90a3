use Rattle.std.proofs.Common.{take}
use Rattle.class_combine.proofs.Rows.{Gains}
use Rattle.class_combine.proofs.sums.AddOnSums.add_rows.Given as goal

abbrev pub invariant-loop-index : goal.invariant-loop-index
invariant-loop-index l = Gains l.fn.self l.self (take l.index l.rows)
