use Rattle.std.proofs.Common.{drop, pos, ◌≤ℤ◌}
use Rattle.schedule_im.specs.Parts.{gain}
use Rattle.schedule_im.proofs.Adding.{Adds}
use Rattle.schedule_im.proofs.margin.gross_cost.Given as goal

abbrev pub invariant-loop-row : goal.invariant-loop-row
invariant-loop-row l = record { adds : Adds gain l.rows (drop l.row-index l.rows) l.sum; low : pos 0 ≤ℤ l.sum }
