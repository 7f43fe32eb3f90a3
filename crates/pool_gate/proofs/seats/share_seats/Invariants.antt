use Rattle.std.proofs.Common.{◌≡◌, ◌-◌, All, length}
use Rattle.threshold_pool.specs.Seats.{fresh_seat}
use Rattle.pool_gate.proofs.seats.share_seats.Given as goal

-- so many seats with one part each, and one with the others
abbrev pub invariant-loop-feed : goal.invariant-loop-feed
invariant-loop-feed l = record {
  count : length l.seats.items ≡ l._feed;
  seats : All (λ s. s ≡ fresh_seat l.pool 1) l.seats.items;
  rest : l.rest ≡ fresh_seat l.pool (l.feeds - l._feed);
}
