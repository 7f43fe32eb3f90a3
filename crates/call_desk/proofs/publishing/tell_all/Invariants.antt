use Rattle.std.proofs.Common.{◌≡◌, take}
use Rattle.call_desk.specs.Desk.{WasTold}
use Rattle.call_desk.proofs.publishing.tell_all.Given as goal

abbrev pub invariant-loop-notice : goal.invariant-loop-notice
invariant-loop-notice g l =
    (l.told ≡ l.notice-index)
    × WasTold ((goal.Desk-dyn g (l.initial.desk.vtable, l.initial.desk.value)).seen l.initial.desk.value) ((goal.Desk-dyn g (l.desk.vtable, l.desk.value)).seen l.desk.value) (take l.notice-index l.notices)
