-- A set's journal as it is replayed, and what a rule says of a message.
use Rattle.std.specs.Prelude.{◌≡◌, ℕ, List, [], ◌∷◌, ◌++◌, Result, Ok, Err}
use Rattle.feed_reader.specs.CsaTerms.Terms.{Agreements}
use Rattle.feed_reader.specs.declared.message.Message.{Message}
use Rattle.feed_events.specs.SetCore.SimmRules.Params.{Params}
use Rattle.feed_events.specs.SetCore.HeldCell.declared.entry.Entry.{Entry}
use Rattle.feed_events.specs.SetCore.HeldCell.Entries.{entry}
use Rattle.feed_events.specs.SetCore.declared.event.Event.{Event}
use Rattle.feed_events.specs.SetCore.declared.reply.Reply.{Reply}
use Rattle.audit_file.specs.declared.replay.Unruled.{Unruled}
use Rattle.audit_file.specs.declared.replay.Unruled.TheVariants as unruled
use Rattle.audit_file.specs.Replies.{told_reply}

-- the parameters, and the terms of all sets, in their order
pub record Base : Type 0 where
  pub params : Params
  pub terms : List Agreements

-- a set by its place, from 0, and its entries so far
pub record Log : Type 0 where
  pub set : ℕ
  pub entries : List (Entry Event Reply)

-- a replay: what it works on, and the journal of the set that was begun last
pub record Replayed : Type 0 where
  pub base : Base
  pub log : Log

-- what the rule says of a message: its event with the reply to it; that it has none; or that the journal is full
pub data Ruling : Type 0 where
  Replies : (event : Event) (reply : Reply) → Ruling
  NotEvent : Ruling
  Full : Ruling

-- a set with no entries
abbrev pub begun : ℕ → Log
begun set = record { set = set; entries = [] }

abbrev pub with_entry : Log → ℕ → Event → Reply → Log
with_entry log caller event reply = record { set = log.set; entries = log.entries ++ entry caller event reply ∷ [] }

-- an event is answered by the rule and stands in the journal
pub record Answered (rule : Log → Message → Ruling) (old new : Log) (caller : ℕ) (m : Message) (text : List ℕ) : Type 0 where
  pub event : Event
  pub reply : Reply
  pub says : rule old m ≡ Replies event reply
  pub after : new ≡ with_entry old caller event reply
  pub told : text ≡ told_reply reply

-- it has no reply by the rule
abbrev pub IsUnruled : Ruling → Unruled → Type 0
IsUnruled says unruled.NotEvent = says ≡ NotEvent
IsUnruled says unruled.Full = says ≡ Full
IsUnruled says unruled.Memory = Unit {0}

abbrev pub Rules : (Log → Message → Ruling) → Log → Log → ℕ → Message → Result (List ℕ) Unruled → Type 0
Rules rule old new caller m (Ok text) = Answered rule old new caller m text
Rules rule old new caller m (Err why) = IsUnruled (rule old m) why
