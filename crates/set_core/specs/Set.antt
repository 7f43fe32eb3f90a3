-- A netting set as it is seen: what it works on, its journal, and what is kept of its margin.
use Rattle.std.specs.Prelude.{◌≡◌, ℕ, ◌-◌, ◌≤◌, List, [], ◌∷◌, ◌++◌, length, Bool, true, false, Option, None, zero, suc, slice_get}
use Rattle.collateral_ledger.specs.SimmKinds.Batch.{rows_of}
use Rattle.bucket_cache.specs.SimmRules.Params.{Params}
use Rattle.bucket_cache.specs.FactorBook.declared.address.Address.{Address}
use Rattle.bucket_cache.specs.FactorBook.declared.place.Place.{Place}
use Rattle.bucket_cache.specs.FactorBook.declared.value.PlaceValue.{PlaceValue}
use Rattle.bucket_cache.specs.Cached.{touches, is_cached}
use Rattle.collateral_ledger.specs.CsaTerms.Terms.{Agreements}
use Rattle.held_cell.specs.declared.entry.Entry.{Entry}
use Rattle.held_cell.specs.declared.machine.Halt.{Halt}
use Rattle.held_cell.specs.declared.machine.Halt.TheVariants as halt
use Rattle.held_cell.specs.Entries.{entry}
use Rattle.set_core.specs.declared.event.Event.{Event}
use Rattle.set_core.specs.declared.reply.Reply.{Reply}
use Rattle.set_core.specs.Answer.{answer, IsLegal}
use Rattle.set_core.specs.Book.{book}
use Rattle.set_core.specs.Cached.{touched_by, touches_margin, is_kept, is_known}
use Rattle.set_core.specs.Room.{journal_rows, is_full}

-- the tables that it opened with, the terms of its two agreements, and all calls with their answers; whether its margin is known, and the
-- values of buckets that are kept; for how many entries more room was put by
pub record Set : Type 0 where
  pub params : Params
  pub terms : Agreements
  pub journal : List (Entry Event Reply)
  pub is_fresh : Bool
  pub kept : List (Address × PlaceValue)
  pub spare : ℕ

-- a set before its first call: the margin of no trades is known, no value of a bucket is kept, and no room was put by
abbrev pub start : Params → Agreements → Set
start p t = record { params = p; terms = t; journal = []; is_fresh = true; kept = []; spare = 0 }

-- what it works on, which no event changes
abbrev pub base_of : Set → Params × Agreements
base_of s = (s.params, s.terms)

-- Of which buckets the value is kept after an event that was answered: after an accepted one exactly of those that it was kept of and
-- that the event does not touch; after a refused one of the same; after a question of those that a row of the book lies in.
abbrev pub cached_after : Set → Event → Reply → Place → Bool
cached_after s event reply place =
    is_kept (is_cached s.kept place) (touched_by place (book s.journal) event) (touches place (rows_of (book s.journal))) reply

-- the set after an event that was answered, by what is kept of its buckets then; its entry takes of the room that was put by
abbrev pub with_entry : Set → ℕ → Event → Reply → List (Address × PlaceValue) → Set
with_entry s caller event reply kept = record s {
  journal = s.journal ++ entry caller event reply ∷ [];
  is_fresh = is_known s.is_fresh (touches_margin event) reply;
  kept = kept;
  spare = s.spare - 1;
}

-- What an event that is answered does: its answer by the written rule joins the journal, which had room.
pub record IsAnswered (old new : Set) (caller : ℕ) (event : Event) (reply : Reply) : Type 0 where
  pub room : is_full old.journal event ≡ false
  pub value : reply ≡ answer old.params old.terms old.journal event
  pub after : new ≡ with_entry old caller event reply new.kept
  pub cached : (place : Place) → is_cached new.kept place ≡ cached_after old event reply place

-- What was kept of its margin is kept, and maybe more; all else stands.
pub record KeepsMore (old new : Set) : Type 0 where
  pub stands : new ≡ record old { is_fresh = new.is_fresh; kept = new.kept }
  pub fresh : old.is_fresh ≡ true → new.is_fresh ≡ true
  pub cached : (place : Place) → is_cached old.kept place ≡ true → is_cached new.kept place ≡ true

-- What an event leaves that is not answered: a full journal all as it was, and want of memory at least as much of the margin.
abbrev pub Leaves : Set → Set → Halt Event → Type 0
Leaves old new (halt.Full entries weight event) = new ≡ old
Leaves old new (halt.Memory event) = KeepsMore old new

-- what each set keeps
pub record IsSet (p : Params) (t : Agreements) (log : List (Entry Event Reply)) : Type 0 where
  pub few : length log ≤ 65535
  pub light : journal_rows log ≤ 500000
  pub legal : IsLegal p t log

-- the entry at a place, from 1
abbrev pub entry_at : List (Entry Event Reply) → ℕ → Option (Entry Event Reply)
entry_at log zero = None
entry_at log (suc i) = slice_get log i
