-- What the types of this crate keep inside, beside what contracts see of them.
use Rattle.std.specs.Prelude.{◌≡◌, ◌≤◌, ◌<◌, ◌^◌, ℕ, List, length, map, ℤ, unsigned_abs}
use Rattle.std.specs.List.{AllByRecursion}
use Rattle.std.specs.Map.{values_of}
use Rattle.csa_terms.specs.declared.flow.Flow.{Flow}
use Rattle.collateral_ledger.specs.Holdings.{Lot, Call, IsLotValue, IsCall}
use Rattle.collateral_ledger.specs.Booked.{total, counted_at, settled_at}
use Rattle.collateral_ledger.specs.Sorting.{sorted_by}

-- a lot without its name; of two lots the one that was put later has the greater place
pub record Rated : Type 0 where
  pub place : ℕ
  pub value : ℤ
  pub rate : ℤ

pub record IsRated (lot : Rated) : Type 0 where
  pub in_range : IsLotValue lot.value
  pub small : unsigned_abs lot.rate ≤ 10000

-- what a lot counts for
abbrev pub counted_of : Rated → ℤ
counted_of lot = counted_at lot.value lot.rate

abbrev pub lot_at : List ℕ × Rated → Lot
lot_at entry = record { name = entry.0; value = entry.1.value; rate = entry.1.rate }

abbrev pub place_at : List ℕ × Rated → ℕ
place_at entry = entry.1.place

-- the lots of a map's entries, in the order in which they were put
abbrev pub lots_at : List (List ℕ × Rated) → List Lot
lots_at entries = map lot_at (sorted_by place_at entries)

-- a lot that was put before the next place is given
pub record IsPlaced (next : ℕ) (entry : List ℕ × Rated) : Type 0 where
  pub rated : IsRated entry.1
  pub small : unsigned_abs (counted_of entry.1) ≤ 10 ^ 15
  pub earlier : place_at entry < next

-- `sum` is what the lots count for together
pub record AreRated (next : ℕ) (sum : ℤ) (entries : List (List ℕ × Rated)) : Type 0 where
  pub few : length entries ≤ 4096
  pub each : AllByRecursion (IsPlaced next) entries
  pub counted : sum ≡ total (map counted_of (values_of entries))

-- a call without its number
pub record Open : Type 0 where
  pub flow : Flow
  pub amount : ℤ

-- the outstanding calls, and how many were ever added
pub record Called : Type 0 where
  pub calls : List Call
  pub added : ℕ

abbrev pub call_at : ℕ × Open → Call
call_at entry = record { number = entry.0; flow = entry.1.flow; amount = entry.1.amount }

-- what is booked for a call
abbrev pub settled_of : Open → ℤ
settled_of call = settled_at call.flow call.amount

-- `sum` is what is booked for the calls together
pub record AreAdded (added : ℕ) (sum : ℤ) (entries : List (ℕ × Open)) : Type 0 where
  pub few : length entries ≤ added
  pub each : AllByRecursion (λ entry. IsCall added (call_at entry)) entries
  pub settled : sum ≡ total (map settled_of (values_of entries))
