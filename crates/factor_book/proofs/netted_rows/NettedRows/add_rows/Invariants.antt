use Rattle.std.proofs.Common.{take}
use Rattle.factor_book.proofs.Nets.{Nets}
use Rattle.factor_book.proofs.netted_rows.NettedRows.add_rows.Given as goal

abbrev pub invariant-loop-row : goal.invariant-loop-row
invariant-loop-row l = Nets l.fn.self l.self (take l.row-index l.rows)
