-- Sets in cells, and the seats by which callers share them: a row of seats for each caller, one of each cell.
use Rattle.std.specs.Prelude.{◌≡◌, ℕ, ◌+◌, List, [], ◌∷◌, ◌++◌, Some, slice_get}
use Rattle.std.specs.List.{AllZip}
use mathlib.Core.List.{IsPrefix}
use Rattle.feed_events.specs.SetCore.HeldCell.declared.entry.Entry.{Entry}
use Rattle.feed_events.specs.SetCore.HeldCell.Entries.{own_of}
use Rattle.feed_events.specs.SetCore.HeldCell.Seats.{IsSeatOf}
use Rattle.feed_events.specs.SetCore.declared.event.Event.{Event}
use Rattle.feed_events.specs.SetCore.declared.reply.Reply.{Reply}
use Rattle.feed_events.specs.SetCore.Set.{Set, base_of, IsSet}
use Rattle.feed_gate.specs.Seats.{Cell, Seat}

-- ---- before the first call

-- the cell is of this set, for so many callers
pub record Starts (many : ℕ) (set : Set) (cell : Cell) : Type 0 where
  pub base : cell.base ≡ base_of set
  pub callers : cell.callers ≡ many

-- the seat is of the cell, for so many callers from this number on
pub record IsFor (from many : ℕ) (cell : Cell) (seat : Seat) : Type 0 where
  pub of : IsSeatOf cell seat
  pub first : seat.first ≡ from
  pub count : seat.count ≡ many

-- and none of them made a call
pub record IsUnused (from many : ℕ) (cell : Cell) (seat : Seat) : Type 0 where
  pub is : IsFor from many cell seat
  pub own : seat.own ≡ []

-- a row for each caller from this number on: a seat of each cell for that caller alone, with no call
abbrev pub AreRows : List Cell → ℕ → List (List Seat) → Type 0
AreRows cells from [] = Unit {0}
AreRows cells from (row ∷ rows) = AllZip (IsUnused from 1) cells row × AreRows cells (from + 1) rows

-- ---- behind the last call

-- the same, whatever they called
abbrev pub AreCellRows : List Cell → ℕ → List (List Seat) → Type 0
AreCellRows cells from [] = Unit {0}
AreCellRows cells from (row ∷ rows) = AllZip (IsFor from 1) cells row × AreCellRows cells (from + 1) rows

-- the last seat of a row is of this cell, for this caller alone
pub record IsLast (cell : Cell) (caller : ℕ) (row : List Seat) : Type 0 where
  pub front : List Seat
  pub last : Seat
  pub there : row ≡ front ++ last ∷ []
  pub is : IsFor caller 1 cell last

abbrev pub AreLasts : Cell → ℕ → List (List Seat) → Type 0
AreLasts cell from [] = Unit {0}
AreLasts cell from (row ∷ rows) = IsLast cell from row × AreLasts cell (from + 1) rows

-- each row lost its last seat
abbrev pub IsCut : List Seat → List Seat → Type 0
IsCut old new = (last : Seat) × (old ≡ new ++ last ∷ [])

abbrev pub AreCut : List (List Seat) → List (List Seat) → Type 0
AreCut old new = AllZip IsCut old new

-- the journal begins with what the seat had seen, and the caller's entries in it are the seat's own
pub record Holds (caller : ℕ) (seat : Seat) (log : List (Entry Event Reply)) : Type 0 where
  pub begins : IsPrefix seat.seen log
  pub own : own_of caller 1 log ≡ seat.own

-- the journal holds what each of these callers has in the last seat of its row
abbrev pub Gathers : ℕ → List (List Seat) → List (Entry Event Reply) → Type 0
Gathers from [] log = Unit {0}
Gathers from (row ∷ rows) log = ((front : List Seat) (last : Seat) → row ≡ front ++ last ∷ [] → Holds from last log) × Gathers (from + 1) rows log

-- the set that came out of the cell has its parameters and terms and a legal journal, whose entries are all of its callers
pub record Closes (many : ℕ) (cell : Cell) (set : Set) : Type 0 where
  pub base : base_of set ≡ cell.base
  pub legal : IsSet set.params set.terms set.journal
  pub callers : own_of 0 many set.journal ≡ set.journal

-- each set holds what each of these callers has in its seat of that set
abbrev pub AreKeptIn : ℕ → List (List Seat) → List Set → Type 0
AreKeptIn from [] sets = Unit {0}
AreKeptIn from (row ∷ rows) sets =
    ((place : ℕ) (seat : Seat) (set : Set) → slice_get row place ≡ Some seat → slice_get sets place ≡ Some set → Holds from seat set.journal)
    × AreKeptIn (from + 1) rows sets
