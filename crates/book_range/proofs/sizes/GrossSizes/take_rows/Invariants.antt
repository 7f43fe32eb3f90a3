use Rattle.std.proofs.Common.{take}
use Rattle.book_range.proofs.Sizing.{Taken}
use Rattle.book_range.proofs.sizes.GrossSizes.take_rows.Given as goal

abbrev pub invariant-loop-row : goal.invariant-loop-row
invariant-loop-row l = Taken l.params l.fn.self l.self (take l.row-index l.rows)
