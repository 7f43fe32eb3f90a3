use Rattle.std.proofs.Common.{drop}
use Rattle.schedule_im.specs.Parts.{cost}
use Rattle.schedule_im.proofs.Adding.{Adds}
use Rattle.schedule_im.proofs.margin.present_value.Given as goal

abbrev pub invariant-loop-row : goal.invariant-loop-row
invariant-loop-row l = Adds cost l.rows (drop l.row-index l.rows) l.sum
