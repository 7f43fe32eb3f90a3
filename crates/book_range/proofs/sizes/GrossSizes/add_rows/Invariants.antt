use Rattle.std.proofs.Common.{take}
use Rattle.book_range.proofs.Sizing.{Added}
use Rattle.book_range.proofs.sizes.GrossSizes.add_rows.Given as goal

abbrev pub invariant-loop-row : goal.invariant-loop-row
invariant-loop-row l = Added l.params l.fn.self l.self (take l.row-index l.rows)
