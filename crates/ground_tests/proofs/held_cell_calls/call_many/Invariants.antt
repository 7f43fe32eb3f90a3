use Rattle.std.proofs.Common.{◌≡◌}
use Rattle.held_cell.specs.Seats.{IsSeatOf}
use Rattle.ground_tests.proofs.held_cell_calls.call_many.Given as goal

abbrev pub invariant-loop-event : goal.invariant-loop-event
invariant-loop-event g l = record {
  of_cell : IsSeatOf l.cell l.seat;
  same_first : l.seat.first ≡ l.initial.seat.first;
  same_count : l.seat.count ≡ l.initial.seat.count;
}
