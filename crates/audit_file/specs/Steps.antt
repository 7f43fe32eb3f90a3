-- What a line does. The format alone tells what it is, and the rule what follows from it.
use Rattle.std.specs.Prelude.{◌≡◌, ℕ, ◌+◌, ◌-◌, ◌<◌, ◌≤◌, List, [], ◌∷◌, ◌++◌, length, Bool, false, ◌==◌, if◌then◌else◌, slice_get, Option, Some, None, Result, Ok, Err}
use Rattle.std.specs.Str.{bytes_eq}
use Rattle.feed_reader.specs.CsaTerms.SimmKinds.Order.{same_name}
use Rattle.mh_io.specs.Lines.{Stop, Whole, Open, Long, Over}
use Rattle.mh_io.specs.Limits.{most_bytes}
use Rattle.mh_io.specs.declared.lines_answer.LineFault.{LineFault}
use Rattle.mh_io.specs.declared.lines_answer.LineFault.TheVariants as line_fault
use Rattle.feed_reader.specs.declared.message.Message.{Message}
use Rattle.feed_reader.specs.declared.message.Meaning.{Meaning}
use Rattle.feed_reader.specs.declared.message.Meaning.TheVariants as meaning
use Rattle.feed_reader.specs.Messages.{block_message}
use Rattle.feed_reader.specs.Line.{is_passed_over, meaning_of, is_end}
use Rattle.feed_events.specs.Events.{set_of}
use Rattle.audit_file.specs.declared.answer.Verdict.{Verdict}
use Rattle.audit_file.specs.declared.answer.Verdict.TheVariants.{Yes, No}
use Rattle.audit_file.specs.declared.answer.AuditFault.{AuditFault}
use Rattle.audit_file.specs.declared.answer.AuditFault.TheVariants as fault
use Rattle.audit_file.specs.declared.answer.Halt.{Halt}
use Rattle.audit_file.specs.declared.answer.Halt.TheVariants as halt
use Rattle.audit_file.specs.declared.place.Place.{Place}
use Rattle.audit_file.specs.declared.place.OpenBlock.{OpenBlock}
use Rattle.audit_file.specs.declared.place.Phase.{Phase}
use Rattle.audit_file.specs.declared.place.Phase.TheVariants.{AtSet, AtCaller, AtEvent, InBlock, AtReply}
use Rattle.audit_file.specs.declared.place.At.{At}
use Rattle.audit_file.specs.Rules.{Log, Ruling, Replies, NotEvent, Full, begun, with_entry}
use Rattle.audit_file.specs.Replies.{told_reply}
use Rattle.audit_file.specs.Fields.{header_of, caller_of, reply_of}

-- how far a reading came, the journal of the set, and the text of the reply that the last event has
pub record Now : Type 0 where
  pub at : At
  pub log : Log
  pub reply : List ℕ

-- what a line does: the reading goes on, or ends
pub data Step : Type 0 where
  Goes : (now : Now) → Step
  Ends : (answer : Result Verdict AuditFault) → Step

-- What a line is, by the format alone: not in it; the line of a set; one that tells nothing yet; the last of a message that
-- began in the line `first`; a reply line.
pub data Reading : Type 0 where
  Bad : Reading
  Begins : (next : At) (set : ℕ) → Reading
  Passes : (next : At) → Reading
  Files : (first caller : ℕ) (message : Message) → Reading
  Tells : (next : At) (text : List ℕ) → Reading

abbrev pub at_place : Place → Phase → At
at_place place phase = record { place = place; phase = phase }

-- ---- the format

-- a set of so many entries begins
abbrev pub begins : Place → ℕ → Reading
begins place count =
    if count == 0
    then Begins (at_place (record { sets = place.sets + 1; entry = 0; count = 0; total = place.total }) AtSet) place.sets
    else Begins (at_place (record { sets = place.sets + 1; entry = 1; count = count; total = place.total }) AtCaller) place.sets

abbrev pub by_count : Place → Option ℕ → Reading
by_count place None = Bad
by_count place (Some count) = begins place count

abbrev pub by_name : Place → List ℕ → Option (List ℕ) → Reading
by_name place line None = Bad
by_name place line (Some name) = by_count place (header_of name line)

abbrev pub at_set : List (List ℕ) → Place → List ℕ → Reading
at_set names place line = by_name place line (slice_get names place.sets)

abbrev pub by_caller : Place → Option ℕ → Reading
by_caller place None = Bad
by_caller place (Some caller) = Passes (at_place place (AtEvent caller))

abbrev pub at_caller : Place → List ℕ → Reading
at_caller place line = by_caller place (caller_of line)

abbrev pub is_named : Option (List ℕ) → List ℕ → Bool
is_named None set = false
is_named (Some name) set = same_name set name

-- the name is that of the set that was begun last
abbrev pub is_here : List (List ℕ) → Place → List ℕ → Bool
is_here names place set = is_named (slice_get names (place.sets - 1)) set

-- a message, or the line that opens a block, names the set
abbrev pub by_meaning : ℕ → List (List ℕ) → Place → ℕ → Meaning → Reading
by_meaning n names place caller meaning.Bad = Bad
by_meaning n names place caller (meaning.Tells m) = if is_here names place (set_of m) then Files n caller m else Bad
by_meaning n names place caller (meaning.Opens kind set) = if is_here names place set then Passes (at_place place (InBlock (record { caller = caller; first = n; kind = kind; set = set; block = [] }))) else Bad

abbrev pub at_event : ℕ → List (List ℕ) → Place → ℕ → List ℕ → Reading
at_event n names place caller line =
    if is_passed_over line then Passes (at_place place (AtEvent caller)) else by_meaning n names place caller (meaning_of line)

abbrev pub in_block : Place → OpenBlock → List ℕ → Reading
in_block place held line =
    if is_end line then Files held.first held.caller (block_message held.kind held.set held.block)
    else Passes (at_place place (InBlock (record held { block = held.block ++ line ++ 10 ∷ [] })))

-- behind an entry
abbrev pub behind_entry : Place → At
behind_entry place =
    if place.entry == place.count
    then at_place (record { sets = place.sets; entry = place.entry; count = place.count; total = place.total + 1 }) AtSet
    else at_place (record { sets = place.sets; entry = place.entry + 1; count = place.count; total = place.total + 1 }) AtCaller

abbrev pub by_text : Place → Option (List ℕ) → Reading
by_text place None = Bad
by_text place (Some text) = Tells (behind_entry place) text

abbrev pub at_reply : Place → List ℕ → Reading
at_reply place line = by_text place (reply_of line)

-- the line n
abbrev pub by_phase : List (List ℕ) → ℕ → Place → List ℕ → Phase → Reading
by_phase names n place line AtSet = at_set names place line
by_phase names n place line AtCaller = at_caller place line
by_phase names n place line (AtEvent caller) = at_event n names place caller line
by_phase names n place line (InBlock block) = in_block place block line
by_phase names n place line AtReply = at_reply place line

unfoldable pub reading : List (List ℕ) → ℕ → At → List ℕ → Reading
reading names n at line = by_phase names n at.place line at.phase

-- ---- the replay

abbrev pub goes : At → Log → List ℕ → Step
goes at log reply = Goes (record { at = at; log = log; reply = reply })

abbrev pub not_audit : ℕ → Step
not_audit n = Ends (Err (fault.NotAudit n))

-- what the rule says of the message that began in the line `first`
abbrev pub by_ruling : ℕ → Place → Log → ℕ → Ruling → Step
by_ruling first place log caller (Replies event reply) = goes (at_place place AtReply) (with_entry log caller event reply) (told_reply reply)
by_ruling first place log caller NotEvent = not_audit first
by_ruling first place log caller Full = Ends (Err (fault.Full place.sets place.entry))

-- what is read in the line n does at this place
abbrev pub judged : (Log → Message → Ruling) → ℕ → Place → Log → List ℕ → Reading → Step
judged rule n place log reply Bad = not_audit n
judged rule n place log reply (Begins next set) = goes next (begun set) reply
judged rule n place log reply (Passes next) = goes next log reply
judged rule n place log reply (Files first caller message) = by_ruling first place log caller (rule log message)
judged rule n place log reply (Tells next text) = if bytes_eq text reply then goes next log reply else Ends (Ok (No place.sets place.entry))

-- the line n
abbrev pub step : (Log → Message → Ruling) → List (List ℕ) → ℕ → Now → List ℕ → Step
step rule names n now line = judged rule n now.at.place now.log now.reply (reading names n now.at line)

-- ---- the end

-- every set was told
abbrev pub is_done : List (List ℕ) → At → Bool
is_done names at = elim at.phase [ AtSet ↦ at.place.sets == length names | AtCaller ↦ false | AtEvent caller ↦ false | InBlock block ↦ false | AtReply ↦ false ]

abbrev pub at_end : List (List ℕ) → ℕ → At → Result Verdict AuditFault
at_end names n at = if is_done names at then Ok (Yes at.place.sets at.place.total) else Err (fault.NotAudit n)

-- where the lines stop before the line n
abbrev pub at_stop : List (List ℕ) → ℕ → At → Stop → Result Verdict AuditFault
at_stop names n at Whole = at_end names n at
at_stop names n at Open = Err fault.ReadFault
at_stop names n at Long = Err (fault.Long n)
at_stop names n at Over = Err (fault.TooLong (most_bytes + 1))

-- ---- a call

-- a line's fault at the line n
abbrev pub audit_fault : LineFault → ℕ → AuditFault
audit_fault line_fault.ReadFault n = fault.ReadFault
audit_fault line_fault.LineLong n = fault.Long n
audit_fault (line_fault.TooLong taken) n = fault.TooLong taken
audit_fault line_fault.Memory n = fault.Memory

-- what a call answered is this step
abbrev pub Steps : Step → Log → List ℕ → Result At Halt → Type 0
Steps expected log reply (Ok at) = expected ≡ Goes (record { at = at; log = log; reply = reply })
Steps expected log reply (Err (halt.Ends answer)) = expected ≡ Ends answer
Steps expected log reply (Err halt.Memory) = Unit {0}

-- a place before the line n
pub record IsSound (names : List (List ℕ)) (n : ℕ) (place : Place) : Type 0 where
  pub sets : place.sets ≤ length names
  pub within : place.entry ≤ place.count
  pub total : place.total < n
