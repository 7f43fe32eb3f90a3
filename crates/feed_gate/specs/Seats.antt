-- The seats by which a feed calls its sets, one for each set, and what one call makes of a seat.
use Rattle.std.specs.Prelude.{◌≡◌, ◌≢◌, ℕ, ◌≤◌, List, length, Some, slice_get}
use Rattle.std.specs.List.{IsDistinct}
use Rattle.feed_events.specs.CrifReader.SimmKinds.Order.{same_name}
use Rattle.feed_events.specs.SetCore.SimmRules.Params.{Params}
use Rattle.feed_events.specs.FeedReader.CsaTerms.Terms.{Agreements}
use Rattle.feed_events.specs.SetCore.HeldCell.Seats.{CellState, SeatState, IsSeatOf, HasOwn}
use Rattle.feed_events.specs.SetCore.HeldCell.Calls.{SeesMore, AddsCall}
use Rattle.feed_events.specs.SetCore.declared.event.Event.{Event}
use Rattle.feed_events.specs.SetCore.declared.reply.Reply.{Reply}
use Rattle.feed_events.specs.SetCore.Room.{journal_rows, IsFull}

-- the cell of a netting set, and a seat of it
abbrev pub Cell : Type 0
Cell = CellState (Params × Agreements)

abbrev pub Seat : Type 0
Seat = SeatState (Params × Agreements) Event Reply

-- at most sixteen sets, of different names, each in a cell
pub record AreNamed (names : List (List ℕ)) (cells : List Cell) : Type 0 where
  pub few : length names ≤ 16
  pub different : IsDistinct same_name names
  pub count : length cells ≡ length names

-- a seat for each cell, in order
pub record AreSeats (cells : List Cell) (seats : List Seat) : Type 0 where
  pub count : length seats ≡ length cells
  pub each : (place : ℕ) (cell : Cell) (seat : Seat) → slice_get cells place ≡ Some cell → slice_get seats place ≡ Some seat → IsSeatOf cell seat

-- the seat may have seen more, which has no call of it, and its own are all of its calls in that
pub record Sees (old new : Seat) : Type 0 where
  pub sees : SeesMore old new
  pub all : HasOwn old → HasOwn new

-- the call stands at the end of the journal that was seen
pub record Enters (e : Event) (old new : Seat) : Type 0 where
  pub reply : Reply
  pub adds : AddsCall IsFull old new e reply
  pub all : HasOwn new

-- the journal that was seen has so many entries and rows, and no room for the event
pub record FindsFull (e : Event) (shown_entries shown_rows : ℕ) (old new : Seat) : Type 0 where
  pub sees : SeesMore old new
  pub all : HasOwn new
  pub entries : shown_entries ≡ length new.seen
  pub rows : shown_rows ≡ journal_rows new.seen
  pub full : IsFull new.seen e

pub record AllSee (old new : List Seat) : Type 0 where
  pub count : length new ≡ length old
  pub each : (place : ℕ) (a b : Seat) → slice_get old place ≡ Some a → slice_get new place ≡ Some b → Sees a b

-- one seat changes in this way, and no other
pub record ChangesOne (place : ℕ) (P : Seat → Seat → Type 0) (old new : List Seat) : Type 0 where
  pub count : length new ≡ length old
  pub here : (a b : Seat) → slice_get old place ≡ Some a → slice_get new place ≡ Some b → P a b
  pub others : (k : ℕ) → k ≢ place → slice_get new k ≡ slice_get old k

-- what holds of each set's name and of its seat before and after
pub record OfEachSet (P : List ℕ → Seat → Seat → Type 0) (names : List (List ℕ)) (old new : List Seat) : Type 0 where
  pub count : length new ≡ length old
  pub each : (place : ℕ) (name : List ℕ) (a b : Seat) → slice_get names place ≡ Some name → slice_get old place ≡ Some a → slice_get new place ≡ Some b → P name a b
