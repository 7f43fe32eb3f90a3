use Rattle.std.proofs.Common.{take}
use Rattle.factor_book.proofs.Rows.{Adds}
use Rattle.factor_book.proofs.factors.Factors.add_rows.Given as goal

abbrev pub invariant-loop-index : goal.invariant-loop-index
invariant-loop-index l = Adds l.fn.self l.self (take l.index l.rows)
