use Rattle.std.proofs.Common.{◌≡◌, ◌-◌, map, length}
use Rattle.std.specs.List.{AllZip}
use Rattle.feed_gate.specs.Share.{IsUnused, AreRows}
use Rattle.feed_gate.proofs.share.share_seats.Given as goal

abbrev pub invariant-loop-caller : goal.invariant-loop-caller
invariant-loop-caller l = record {
  count : length l.rows.items ≡ l._caller;
  rest : AllZip (IsUnused l._caller (l.callers - l._caller)) l.cells l.rest.items;
  rows : AreRows l.cells 0 (map (λ row. row.items) l.rows.items);
}
