-- What became of the messages of a feed, one by one.
use Rattle.std.specs.Prelude.{◌≡◌, ℕ, ◌<◌, List, [], ◌∷◌, ◌++◌, length, map, Option, Some, None, is_none, if◌then◌else◌}
use Rattle.std.specs.List.{filter_map, count_by}
use mathlib.Core.List.{IsPrefix}
use Rattle.feed_events.specs.SetCore.HeldCell.declared.entry.Entry.{Entry}
use Rattle.feed_events.specs.SetCore.HeldCell.Entries.{own_of}
use Rattle.feed_events.specs.FeedReader.Feed.{Item}
use Rattle.feed_events.specs.SetCore.declared.event.Event.{Event}
use Rattle.feed_events.specs.SetCore.declared.reply.Reply.{Reply}
use Rattle.feed_events.specs.SetCore.Room.{journal_rows, IsFull}
use Rattle.feed_gate.specs.declared.fate.Call.{Call}
use Rattle.feed_gate.specs.declared.fate.Fate.{Fate}
use Rattle.feed_gate.specs.declared.fate.Fate.TheVariants as fate
use Rattle.feed_gate.specs.declared.report.RefusedMessage.{RefusedMessage}
use Rattle.feed_gate.specs.declared.report.RefusedMessage.TheVariants as refused
use Rattle.feed_gate.specs.Calls.{call_on}
use Rattle.feed_gate.specs.Fates.{fate_of}
use Rattle.feed_gate.specs.Seats.{Seat, Enters, FindsFull, ChangesOne}

-- an item, and why there is no entry of it, where there is none
pub record Met : Type 0 where
  pub item : Item
  pub refused : Option RefusedMessage

-- ---- one message

-- a call stands in a journal, unless the journal was full
abbrev pub MayBeFull : Call → Option RefusedMessage → Type 0
MayBeFull call None = Unit {0}
MayBeFull call (Some (refused.Full line set entries rows)) = (line ≡ call.line) × (set ≡ call.place)
MayBeFull call (Some _) = ⊥

-- whatever makes no call is refused for that
abbrev pub IsMetBy : Fate → Option RefusedMessage → Type 0
IsMetBy (fate.Calls call) r = MayBeFull call r
IsMetBy (fate.Refused why) r = r ≡ Some why

abbrev pub IsMet : List (List ℕ) → Met → Type 0
IsMet names m = IsMetBy (fate_of names m.item) m.refused

-- what one call does to the seat of its set
abbrev pub CallsSeat : Event → Option RefusedMessage → Seat → Seat → Type 0
CallsSeat e None old new = Enters e old new
CallsSeat e (Some (refused.Full line set entries rows)) old new = FindsFull e entries rows old new
CallsSeat e (Some _) old new = new ≡ old

-- what a fate does to the seats: a call changes that of its set alone
abbrev pub MeetsFate : Fate → Option RefusedMessage → List Seat → List Seat → Type 0
MeetsFate (fate.Calls call) r old new = MayBeFull call r × ChangesOne call.place (CallsSeat call.event r) old new
MeetsFate (fate.Refused why) r old new = (r ≡ Some why) × (new ≡ old)

-- a call is on one of so many sets
abbrev pub IsWithin : ℕ → Fate → Type 0
IsWithin sets (fate.Calls call) = call.place < sets
IsWithin sets (fate.Refused why) = Unit {0}

abbrev pub StepsBy : Option Event → Option RefusedMessage → Seat → Seat → Type 0
StepsBy None r old new = new ≡ old
StepsBy (Some e) r old new = CallsSeat e r old new

-- what a message does to the seat of the set of this name; that of another set it leaves
abbrev pub Steps : Met → List ℕ → Seat → Seat → Type 0
Steps m name old new = StepsBy (call_on name m.item) m.refused old new

-- ---- all messages

abbrev pub refused_of : List Met → List RefusedMessage
refused_of mets = filter_map (λ m. m.refused) mets

-- how many have an entry
abbrev pub done_of : List Met → ℕ
done_of mets = count_by (λ m. is_none m.refused) mets

-- the event that stands in the journal of the set of this name
abbrev pub event_done : List ℕ → Met → Option Event
event_done name m = if is_none m.refused then call_on name m.item else None

-- the calls on a set without those for which its journal was full, in the feed's order
abbrev pub events_done : List ℕ → List Met → List Event
events_done name mets = filter_map (event_done name) mets

abbrev pub events_of : List (Entry Event Reply) → List Event
events_of log = map (λ e. e.event) log

-- A full journal: a front of all that was seen, which has so many entries and rows, and no room for the event. The feed's own entries in it are just its calls before.
pub record WasFull (first count : ℕ) (seen : List (Entry Event Reply)) (before : List Event) (e : Event) (shown_entries shown_rows : ℕ) : Type 0 where
  pub front : List (Entry Event Reply)
  pub begins : IsPrefix front seen
  pub entries : shown_entries ≡ length front
  pub rows : shown_rows ≡ journal_rows front
  pub full : IsFull front e
  pub own : events_of (own_of first count front) ≡ before

module _ (first count : ℕ) (seen : List (Entry Event Reply)) where
  abbrev pub ShowsFront : List Event → Option Event → Option RefusedMessage → Type 0
  ShowsFront before None r = Unit {0}
  ShowsFront before (Some e) None = Unit {0}
  ShowsFront before (Some e) (Some (refused.Full line set entries rows)) = WasFull first count seen before e entries rows
  ShowsFront before (Some e) (Some _) = Unit {0}

  -- each call on the set of this name that was refused as Full shows such a front, behind these calls of the feed
  abbrev pub ShowFronts : List ℕ → List Event → List Met → Type 0
  ShowFronts name before [] = Unit {0}
  ShowFronts name before (m ∷ mets) = ShowsFront before (call_on name m.item) m.refused × ShowFronts name (before ++ events_done name (m ∷ [])) mets
