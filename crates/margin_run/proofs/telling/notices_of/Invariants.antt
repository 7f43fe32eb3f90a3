use Rattle.std.proofs.Common.{◌≡◌, ◌≤◌, ◌*◌, take}
use Rattle.std.specs.List.{flat_map}
use Rattle.std.specs.Vec.{vec_len}
use Rattle.margin_run.specs.Notices.{set_notices}
use Rattle.margin_run.proofs.telling.notices_of.Given as goal

abbrev pub invariant-loop-set : goal.invariant-loop-set
invariant-loop-set l = record {
  made : l.notices.items ≡ flat_map set_notices (take l.set-index l.sets);
  few : vec_len l.notices ≤ 65535 * l.set-index;
}
