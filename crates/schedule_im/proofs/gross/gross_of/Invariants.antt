use Rattle.std.proofs.Common.{drop, pos, ◌≤ℤ◌}
use Rattle.schedule_im.specs.Parts.{share}
use Rattle.schedule_im.proofs.Adding.{Adds}
use Rattle.schedule_im.proofs.gross.gross_of.Given as goal

abbrev pub invariant-loop-row : goal.invariant-loop-row
invariant-loop-row l = record { adds : Adds (share l.day l.class) l.rows (drop l.row-index l.rows) l.gross; low : pos 0 ≤ℤ l.gross }
