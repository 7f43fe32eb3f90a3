-- An audit file as it is written: each set with the number of its entries, and each entry with its caller, its event as the
-- message that a feed has, and its reply.
use Rattle.std.specs.Prelude.{◌≡◌, ℕ, ◌+◌, ◌<◌, ◌≤◌, List, [], ◌∷◌, ◌++◌, length, map, flat_map, codes, decimal, true, Ok}
use Rattle.std.specs.List.{AllByRecursion}
use Rattle.feed_reader.specs.CsaTerms.SimmKinds.Batch.{IsBatch}
use Rattle.feed_reader.specs.CsaTerms.SimmKinds.NameText.{is_full_name}
use Rattle.feed_reader.specs.declared.message.Message.{Message}
use Rattle.feed_reader.specs.declared.message.Message.TheVariants as message
use Rattle.feed_events.specs.SetCore.ParamsFile.Texts.{text_read}
use Rattle.feed_events.specs.SetCore.HeldCell.declared.entry.Entry.{Entry}
use Rattle.feed_events.specs.SetCore.declared.event.Event.{Event}
use Rattle.feed_events.specs.SetCore.declared.event.Event.TheVariants as event
use Rattle.feed_events.specs.SetCore.declared.reply.Reply.{Reply}
use Rattle.crif_writer.specs.Text.{batch_text, HasTradeParts}
use Rattle.feed_writer.specs.Messages.{line_of, with_lf, message_text}
use Rattle.feed_writer.specs.Conditions.{CanWrite}
use Rattle.audit_file.specs.Replies.{told_reply}
use Rattle.audit_file.specs.Rules.{Log, Ruling, Replies, begun, with_entry}

-- the message that gives a set this event
abbrev pub message_of : List ℕ → Event → Message
message_of set (event.Submit trades) = message.Crif set (batch_text trades)
message_of set (event.Tables text) = message.Tables set text.text
message_of set (event.Withdraw names) = message.Withdraw set names
message_of set (event.OnSide on e) = message.OnSide set on e

abbrev pub header_line : List ℕ → ℕ → List ℕ
header_line name count = line_of (codes "AUDIT" ∷ name ∷ decimal count ∷ [])

abbrev pub caller_line : ℕ → List ℕ
caller_line caller = line_of (codes "BY" ∷ decimal caller ∷ [])

abbrev pub reply_line : Reply → List ℕ
reply_line r = line_of (codes "=" ∷ told_reply r ∷ [])

-- ---- the text

abbrev pub entry_text : List ℕ → Entry Event Reply → List ℕ
entry_text name e = with_lf (caller_line e.caller) ++ (message_text (message_of name e.event) ++ with_lf (reply_line e.reply))

abbrev pub audit_text : List ℕ → List (Entry Event Reply) → List ℕ
audit_text name log = with_lf (header_line name (length log)) ++ flat_map (entry_text name) log

-- ---- what can be written

-- an event such as a message of a feed gives
abbrev pub HoldsEvent : Event → Type 0
HoldsEvent (event.Submit trades) = IsBatch trades × AllByRecursion HasTradeParts trades
HoldsEvent (event.Tables text) = text_read text.text ≡ Ok text
HoldsEvent (event.Withdraw names) = Unit {0}
HoldsEvent (event.OnSide on e) = Unit {0}

-- a caller below 1,024, and an event that a message of a feed to this set gives
pub record CanTell (name : List ℕ) (e : Entry Event Reply) : Type 0 where
  pub caller : e.caller < 1024
  pub event : HoldsEvent e.event
  pub message : CanWrite (message_of name e.event)

-- a set with its journal
pub record Journal : Type 0 where
  pub name : List ℕ
  pub entries : List (Entry Event Reply)

abbrev pub text_of : Journal → List ℕ
text_of j = audit_text j.name j.entries

abbrev pub file_text : List Journal → List ℕ
file_text js = flat_map text_of js

abbrev pub names_of : List Journal → List (List ℕ)
names_of js = map (λ j. j.name) js

-- how many entries there are
abbrev pub all_entries : List Journal → ℕ
all_entries [] = 0
all_entries (j ∷ js) = length j.entries + all_entries js

pub record CanAudit (j : Journal) : Type 0 where
  pub name : is_full_name j.name ≡ true
  pub few : length j.entries ≤ 65535
  pub entries : AllByRecursion (CanTell j.name) j.entries

-- each reply is that of the rule over the entries before
abbrev pub IsLegalBy : (Log → Message → Ruling) → List ℕ → Log → List (Entry Event Reply) → Type 0
IsLegalBy rule name log [] = Unit {0}
IsLegalBy rule name log (e ∷ es) = (rule log (message_of name e.event) ≡ Replies e.event e.reply) × IsLegalBy rule name (with_entry log e.caller e.event e.reply) es

-- the same of journals, of which the first is that of the set `place`
abbrev pub AreLegalBy : (Log → Message → Ruling) → ℕ → List Journal → Type 0
AreLegalBy rule place [] = Unit {0}
AreLegalBy rule place (j ∷ js) = IsLegalBy rule j.name (begun place) j.entries × AreLegalBy rule (place + 1) js
