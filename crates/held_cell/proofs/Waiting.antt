-- What stands while a call tries again.
use Rattle.std.proofs.Common.{◌≡◌}
use Rattle.held_cell.specs.Seats.{SeatState}

-- the seat has not changed but for its loads and tries
pub record IsWaiting {B E R : Type 0} (old new : SeatState B E R) : Type 0 where
  pub table : new.table ≡ old.table
  pub base : new.base ≡ old.base
  pub first : new.first ≡ old.first
  pub count : new.count ≡ old.count
  pub seen : new.seen ≡ old.seen
  pub own : new.own ≡ old.own
  pub takes : new.takes ≡ old.takes
