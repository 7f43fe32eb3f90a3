use Rattle.std.proofs.Common.{◌≡◌, map, take, drop}
use Rattle.feed_events.specs.SetCore.HeldCell.Seats.{left_seat, right_seat}
use Rattle.feed_gate.proofs.share.split_first.Given as goal

abbrev pub invariant-loop-cell : goal.invariant-loop-cell
invariant-loop-cell l = record {
  waiting : l.waiting.items ≡ drop l.cell-index l.fn.seats.items;
  first : l.first.items ≡ map (left_seat 1) (take l.cell-index l.fn.seats.items);
  others : l.others.items ≡ map (right_seat 1) (take l.cell-index l.fn.seats.items);
}
