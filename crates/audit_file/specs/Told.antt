-- The entries that a file tells, by the format alone.
use Rattle.std.specs.Prelude.{◌≡◌, ℕ, ◌+◌, List, [], ◌∷◌, Bool, unwrap_or}
use Rattle.mh_io.specs.Lines.{lines}
use Rattle.feed_reader.specs.declared.message.Message.{Message}
use Rattle.feed_events.specs.SetCore.declared.event.Event.{Event}
use Rattle.feed_events.specs.SetCore.declared.reply.Reply.{Reply}
use Rattle.audit_file.specs.declared.place.Place.{Place}
use Rattle.audit_file.specs.declared.place.Phase.TheVariants.{AtReply}
use Rattle.audit_file.specs.declared.place.At.{At}
use Rattle.audit_file.specs.Replies.{told_reply}
use Rattle.audit_file.specs.Rules.{Log, Ruling, Replies, begun, with_entry}
use Rattle.audit_file.specs.Fields.{reply_of}
use Rattle.audit_file.specs.Steps.{Reading, Bad, Begins, Passes, Files, Tells, at_place, reading}
use Rattle.audit_file.specs.Verdict.{start_at}

-- a message with its caller and the text of its reply line
pub record ToldEntry : Type 0 where
  pub caller : ℕ
  pub message : Message
  pub reply : List ℕ

-- a set by its place, with its entries
pub record ToldSet : Type 0 where
  pub set : ℕ
  pub entries : List ToldEntry

-- what lines tell: further entries of the set that is begun, and the sets behind it
pub record Rest : Type 0 where
  pub entries : List ToldEntry
  pub sets : List ToldSet

abbrev pub nothing : Rest
nothing = record { entries = []; sets = [] }

-- the text of the next line, if it is a reply line
abbrev pub reply_next : List (List ℕ) → List ℕ
reply_next [] = []
reply_next (line ∷ lines) = unwrap_or (reply_of line) []

-- what a line tells before the lines behind it, where the next reply line has this text
abbrev pub add : (At → Rest) → Place → List ℕ → Reading → Rest
add more place reply Bad = nothing
add more place reply (Begins next set) = record { entries = []; sets = record { set = set; entries = (more next).entries } ∷ (more next).sets }
add more place reply (Passes next) = more next
add more place reply (Files first caller message) = record {
  entries = record { caller = caller; message = message; reply = reply } ∷ (more (at_place place AtReply)).entries;
  sets = (more (at_place place AtReply)).sets;
}
add more place reply (Tells next text) = more next

-- what the lines from number n on tell
unfoldable pub rest : List (List ℕ) → ℕ → At → List (List ℕ) → Rest
rest names n at [] = nothing
rest names n at (line ∷ lines) = add (λ next. rest names (n + 1) next lines) at.place (reply_next lines) (reading names n at line)

-- the sets of a file with their entries
abbrev pub told : List (List ℕ) → List ℕ → Bool → List ToldSet
told names taken ended = (rest names 1 start_at (lines taken ended).lines).sets

-- the sets from a place on, each once and in order, up to so many
abbrev pub AreAllSets : ℕ → ℕ → List ToldSet → Type 0
AreAllSets count place [] = place ≡ count
AreAllSets count place (s ∷ ss) = (s.set ≡ place) × AreAllSets count (place + 1) ss

-- the rule answers the message after this journal, and the reply line is that of its reply
pub record IsRight (rule : Log → Message → Ruling) (log : Log) (e : ToldEntry) : Type 0 where
  pub event : Event
  pub reply : Reply
  pub says : rule log e.message ≡ Replies event reply
  pub told : e.reply ≡ told_reply reply

-- each entry is right after the entries before it
abbrev pub AreRight : (Log → Message → Ruling) → Log → List ToldEntry → Type 0
AreRight rule log [] = Unit {0}
AreRight rule log (e ∷ es) = (right : IsRight rule log e) × AreRight rule (with_entry log e.caller right.event right.reply) es

abbrev pub AllRight : (Log → Message → Ruling) → List ToldSet → Type 0
AllRight rule [] = Unit {0}
AllRight rule (s ∷ ss) = AreRight rule (begun s.set) s.entries × AllRight rule ss
