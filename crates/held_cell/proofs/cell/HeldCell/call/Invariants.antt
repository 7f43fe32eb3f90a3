use Rattle.std.proofs.Common.{◌≡◌, ◌≤◌}
use Rattle.held_cell.proofs.Waiting.{IsWaiting}
use Rattle.held_cell.proofs.cell.HeldCell.call.Given as goal

abbrev pub invariant-loop : goal.invariant-loop
invariant-loop g l = record {
  can_next : (goal.iterator-loop g).can_next l.iterator';
  is_finite : (goal.iterator-loop g).is_finite l.iterator';
  same_event : l.event ≡ l.initial.event;
  waiting : IsWaiting l.initial.seat l.seat;
  few : l.tries ≤ 3;
}
