-- What a call makes of its seat, and when each answer comes.
use Rattle.std.specs.Prelude.{◌≡◌, ◌≢◌, ℕ, ◌+◌, ◌%◌, ◌⊎◌, List, [], ◌∷◌, ◌++◌, length, Result, Ok, Err}
use mathlib.Core.List.{IsPrefix}
use Rattle.held_cell.specs.declared.entry.Entry.{Entry}
use Rattle.held_cell.specs.declared.machine.Halt.{Halt}
use Rattle.held_cell.specs.declared.machine.Halt.TheVariants as halt
use Rattle.held_cell.specs.declared.machine.Outcome.{Outcome}
use Rattle.held_cell.specs.declared.machine.Outcome.TheVariants.{Done, Full, Memory}
use Rattle.held_cell.specs.declared.machine.TryOutcome.{TryOutcome}
use Rattle.held_cell.specs.declared.machine.TryOutcome.TheVariants.{Did, Busy}
use Rattle.held_cell.specs.Entries.{entry}
use Rattle.held_cell.specs.Seats.{SeatState}

module _ {B E R : Type 0} where
  -- the seat is of the same cell and has the same callers
  pub record IsSameSeat (old new : SeatState B E R) : Type 0 where
    pub table : new.table ≡ old.table
    pub base : new.base ≡ old.base
    pub first : new.first ≡ old.first
    pub count : new.count ≡ old.count

  -- the seat has seen more, and no call of its callers came to it
  pub record SeesMore (old new : SeatState B E R) : Type 0 where
    pub same : IsSameSeat old new
    pub begins : IsPrefix old.seen new.seen
    pub own : new.own ≡ old.own

  -- the seat has seen more, and its last call at the end, which is one more of its callers. The journal had room for it
  pub record AddsCall (is_full : List (Entry E R) → E → Type 0) (old new : SeatState B E R) (event : E) (reply : R) : Type 0 where
    pub same : IsSameSeat old new
    pub before : List (Entry E R)
    pub begins : IsPrefix old.seen before
    pub seen : new.seen ≡ before ++ entry old.first event reply ∷ []
    pub own : new.own ≡ old.own ++ entry old.first event reply ∷ []
    pub room : ¬ is_full before event

  -- one load, one exchange, and the machine taken once
  abbrev pub TookOnce : SeatState B E R → SeatState B E R → Type 0
  TookOnce old new = (new.loads ≡ old.loads + 1) × (new.tries ≡ old.tries + 1) × (new.takes ≡ old.takes + 1)

  -- the word was odd at the one load, or the one exchange found another word than the loaded one. The machine was never taken, and nothing else changed
  abbrev pub IsBusy : SeatState B E R → SeatState B E R → ℕ → ℕ → Type 0
  IsBusy old new loaded found =
      ((loaded % 2 ≡ 1) × (found ≡ loaded) × (new ≡ record old { loads = old.loads + 1; loaded = loaded }))
      ⊎ ((loaded % 2 ≡ 0) × (found ≢ loaded) × (new ≡ record old { loads = old.loads + 1; loaded = loaded; tries = old.tries + 1; found = found }))

-- what a call answers, from the machine's answer and the length of its journal
abbrev pub outcome_of : {M E R B : Type 0} → Result R (Halt E) → ℕ → Outcome M E R B
outcome_of (Ok reply) entries = Done reply entries
outcome_of (Err (halt.Full n heavy event)) entries = Full n heavy event
outcome_of (Err (halt.Memory event)) entries = Memory event

module _ {M E R B : Type 0} (weight : List (Entry E R) → ℕ) (is_full : List (Entry E R) → E → Type 0) where
  -- Done ends what was seen with the call. Full comes by the limit of the journal seen, and shows its length and weight. At Memory that journal had room. At Full and Memory the event comes back
  abbrev pub Answers : SeatState B E R → SeatState B E R → E → Outcome M E R B → Type 0
  Answers old new event (Done reply entries) = AddsCall is_full old new event reply × (entries ≡ length new.seen)
  Answers old new event (Full entries heavy back) = SeesMore old new × (entries ≡ length new.seen) × (heavy ≡ weight new.seen) × is_full new.seen event × (back ≡ event)
  Answers old new event (Memory back) = SeesMore old new × (¬ is_full new.seen event) × (back ≡ event)

  -- the same without waiting
  abbrev pub TryAnswers : SeatState B E R → SeatState B E R → E → TryOutcome M E R B → Type 0
  TryAnswers old new event (Did outcome) = Answers old new event outcome × TookOnce old new
  TryAnswers old new event (Busy loaded found back) = IsBusy old new loaded found × (back ≡ event)
