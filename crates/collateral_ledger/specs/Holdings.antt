-- What a netting set holds as collateral, and what was called for and is not yet settled.
-- (ISDA 2016 Credit Support Annex for Initial Margin: Posted Credit Support; deliveries and returns not yet completed.)
use Rattle.std.specs.Prelude.{◌^◌, ◌≤◌, ℕ, List, length, map, ◌==◌, ℤ, pos, ◌≤ℤ◌, unsigned_abs}
use Rattle.std.specs.List.{AllByRecursion, IsDistinct}
use Rattle.csa_terms.specs.SimmKinds.Order.{same_name}
use Rattle.csa_terms.specs.declared.flow.Flow.{Flow}
use Rattle.csa_terms.specs.Terms.{Agreement}

-- a lot of collateral: its name, its value in cents, and what counts of each dollar of it, in ten-thousandths
pub record Lot : Type 0 where
  pub name : List ℕ
  pub value : ℤ
  pub rate : ℤ

-- a call that is outstanding: its number, which way it flows, its amount in cents
pub record Call : Type 0 where
  pub number : ℕ
  pub flow : Flow
  pub amount : ℤ

-- The lots stand in the order in which they were put, the outstanding calls in the order of their numbers. `added` is how many
-- calls were ever added.
pub record Holdings : Type 0 where
  pub terms : Agreement
  pub lots : List Lot
  pub calls : List Call
  pub added : ℕ

-- the value of a lot, in cents: at most ten thousand billion dollars
pub record IsLotValue (value : ℤ) : Type 0 where
  pub low : pos 0 ≤ℤ value
  pub high : value ≤ℤ pos (10 ^ 15)

pub record IsLot (lot : Lot) : Type 0 where
  pub in_range : IsLotValue lot.value
  pub small : unsigned_abs lot.rate ≤ 10000

-- the amount of a call, in cents
pub record IsCallAmount (amount : ℤ) : Type 0 where
  pub low : pos 1 ≤ℤ amount
  pub high : amount ≤ℤ pos (10 ^ 18)

-- one of so many calls that were added
pub record IsCall (count : ℕ) (call : Call) : Type 0 where
  pub first : 1 ≤ call.number
  pub last : call.number ≤ count
  pub amount : IsCallAmount call.amount

-- at most 4,096 lots, of different names
pub record AreLots (held : List Lot) : Type 0 where
  pub few : length held ≤ 4096
  pub each : AllByRecursion IsLot held
  pub different : IsDistinct same_name (map (λ lot. lot.name) held)

-- calls of different numbers, no more than were added
pub record AreCalls (count : ℕ) (outstanding : List Call) : Type 0 where
  pub few : length outstanding ≤ count
  pub each : AllByRecursion (IsCall count) outstanding
  pub different : IsDistinct ◌==◌ (map (λ call. call.number) outstanding)

-- what each ledger keeps
pub record IsLedger (holdings : Holdings) : Type 0 where
  pub lots : AreLots holdings.lots
  pub calls : AreCalls holdings.added holdings.calls
