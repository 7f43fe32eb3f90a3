use Rattle.std.proofs.Common.{◌≡◌, ◌*◌, ◌^◌, ◌≤◌, pos, unsigned_abs, take}
use Rattle.schedule_im.specs.Rule.{sizes}
use Rattle.schedule_im.proofs.margin.sizes.Given as goal

abbrev pub invariant-loop-row : goal.invariant-loop-row
invariant-loop-row l = record {
  value : l.sum ≡ pos (sizes (take l.row-index l.rows));
  small : unsigned_abs l.sum ≤ l.row-index * 2 ^ 63;
}
