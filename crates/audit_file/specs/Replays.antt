-- The written rule of netting sets, as the rule of a replay.
use Rattle.std.specs.Prelude.{◌≡◌, ℕ, List, [], ◌∷◌, ◌++◌, length, true, false, if◌then◌else◌, slice_get, Option, Some, None, Result, Ok, Err}
use Rattle.std.specs.List.{AllZip}
use Rattle.feed_reader.specs.CsaTerms.Terms.{Agreements}
use Rattle.feed_reader.specs.declared.message.Message.{Message}
use Rattle.feed_events.specs.SetCore.SimmRules.Params.{Params}
use Rattle.feed_events.specs.SetCore.HeldCell.declared.entry.Entry.{Entry}
use Rattle.feed_events.specs.SetCore.HeldCell.Entries.{entry}
use Rattle.feed_events.specs.SetCore.declared.event.Event.{Event}
use Rattle.feed_events.specs.SetCore.declared.reply.Reply.{Reply}
use Rattle.feed_events.specs.SetCore.Answer.{answer, IsLegal}
use Rattle.feed_events.specs.SetCore.Set.{Set, IsSet}
use Rattle.feed_events.specs.SetCore.Room.{is_full}
use Rattle.feed_events.specs.declared.block.BlockFault.{BlockFault}
use Rattle.feed_events.specs.Events.{event_of}
use Rattle.audit_file.specs.Rules.{Base, Log, Ruling, Replies, NotEvent, Full, Replayed, IsUnruled, begun, with_entry}
use Rattle.audit_file.specs.declared.begun.Begun.{Begun}
use Rattle.audit_file.specs.declared.replay.Unruled.{Unruled}
use Rattle.audit_file.specs.declared.replay.Unruled.TheVariants as unruled
use Rattle.audit_file.specs.Replies.{told_reply}
use Rattle.audit_file.specs.Told.{ToldEntry, ToldSet}
use Rattle.audit_file.specs.Written.{Journal}

-- the answer to an event from scratch, over the entries before; the room of the journal is tested first
abbrev pub ruling_of : Params → Agreements → List (Entry Event Reply) → Result Event BlockFault → Ruling
ruling_of p t entries (Err fault) = NotEvent
ruling_of p t entries (Ok e) = if is_full entries e then Full else Replies e (answer p t entries e)

-- by the terms of the set that was begun last; before the first there are none
abbrev pub ruling_in : Params → List (Entry Event Reply) → Result Event BlockFault → Option Agreements → Ruling
ruling_in p entries read None = NotEvent
ruling_in p entries read (Some t) = ruling_of p t entries read

unfoldable pub rule_of : Base → Log → Message → Ruling
rule_of base log m = ruling_in base.params log.entries (event_of m) (slice_get base.terms log.set)

-- the journal of the set that was begun last; before the first, of no set
abbrev pub log_in : Base → Option Begun → Log
log_in base None = begun (length base.terms)
log_in base (Some b) = record { set = b.place; entries = b.set.journal }

-- the set has the parameters, and the terms of its place
abbrev pub IsBegun : Base → Option Begun → Type 0
IsBegun base None = Unit {0}
IsBegun base (Some b) = (b.set.params ≡ base.params) × (slice_get base.terms b.place ≡ Some b.set.terms)

-- a set answered an event, by the written rule over its journal
pub record Tells (old new : Set) (caller : ℕ) (e : Event) (text : List ℕ) : Type 0 where
  pub reply : Reply
  pub room : is_full old.journal e ≡ false
  pub value : reply ≡ answer old.params old.terms old.journal e
  pub journal : new.journal ≡ old.journal ++ entry caller e reply ∷ []
  pub told : text ≡ told_reply reply

abbrev pub AnswersIn : Set → Set → ℕ → Event → Result (List ℕ) Unruled → Type 0
AnswersIn old new caller e (Ok text) = Tells old new caller e text
AnswersIn old new caller e (Err unruled.NotEvent) = ⊥
AnswersIn old new caller e (Err unruled.Full) = is_full old.journal e ≡ true
AnswersIn old new caller e (Err unruled.Memory) = Unit {0}

-- what the rule says of an event after this journal
abbrev pub event_ruling : Replayed → Event → Ruling
event_ruling r e = ruling_in r.base.params r.log.entries (Ok e) (slice_get r.base.terms r.log.set)

-- an event is answered by the rule, or has no reply by it
abbrev pub AnswersEvent : Replayed → Replayed → ℕ → Event → Result (List ℕ) Unruled → Type 0
AnswersEvent old new caller e (Ok text) = (reply : Reply) × (event_ruling old e ≡ Replies e reply) × (new.log ≡ with_entry old.log caller e reply) × (text ≡ told_reply reply)
AnswersEvent old new caller e (Err why) = IsUnruled (event_ruling old e) why

-- ---- journals that are written

-- the journal of a set of these terms, within its limits, in which each reply is the answer from scratch
pub record IsJournal (p : Params) (t : Agreements) (j : Journal) : Type 0 where
  pub name : j.name ≡ t.collect.name
  pub set : IsSet p t j.entries

-- one for each set, in the order of the terms
abbrev pub AreJournals : Base → List Journal → Type 0
AreJournals base js = AllZip (IsJournal base.params) base.terms js

-- ---- journals that are told

-- the entry is the one that is told: its event is that of the message, and the reply line is that of its reply
pub record IsTold (e : Entry Event Reply) (told : ToldEntry) : Type 0 where
  pub caller : e.caller ≡ told.caller
  pub event : event_of told.message ≡ Ok e.event
  pub reply : told.reply ≡ told_reply e.reply

-- what is told of a set are the entries of a journal that is legal by the terms of its place
pub record IsToldLegal (base : Base) (s : ToldSet) : Type 0 where
  pub log : List (Entry Event Reply)
  pub entries : AllZip IsTold log s.entries
  pub legal : (t : Agreements) → slice_get base.terms s.set ≡ Some t → IsLegal base.params t log

abbrev pub TellsLegal : Base → List ToldSet → Type 0
TellsLegal base [] = Unit {0}
TellsLegal base (s ∷ ss) = IsToldLegal base s × TellsLegal base ss
