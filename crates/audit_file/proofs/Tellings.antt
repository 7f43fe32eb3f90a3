-- Each entry of a file that is answered Yes is right.
use Rattle.std.proofs.Common.{◌≡◌, ℕ, ◌+◌, Bool, true, false, cond, List, [], ◌∷◌, Option, Some, None, Result, Ok, unwrap_or, length, slice_get, ◌==◌, inl, inr, subst, refl}
use Rattle.std.specs.Str.{bytes_eq}
use Rattle.std.proofs.lemmas.Slice.Eq.{bytes_eq-Decides}
use Rattle.std.proofs.lemmas.Bool.Decides.{eqb_tells}
use Rattle.mh_io.specs.Lines.{Stop, Whole, Open, Long, Over, lines}
use Rattle.feed_reader.specs.declared.message.Message.{Message}
use Rattle.feed_reader.specs.declared.message.Meaning.{Meaning}
use Rattle.feed_reader.specs.declared.message.Meaning.TheVariants as meaning
use Rattle.feed_reader.specs.Line.{is_passed_over, meaning_of, is_end}
use Rattle.feed_events.specs.Events.{set_of}
use Rattle.audit_file.specs.declared.answer.Verdict.{Verdict}
use Rattle.audit_file.specs.declared.answer.Verdict.TheVariants.{Yes, No}
use Rattle.audit_file.specs.declared.answer.AuditFault.{AuditFault}
use Rattle.audit_file.specs.declared.place.Place.{Place}
use Rattle.audit_file.specs.declared.place.Phase.{Phase}
use Rattle.audit_file.specs.declared.place.Phase.TheVariants as phase
use Rattle.audit_file.specs.declared.place.At.{At}
use Rattle.audit_file.specs.Rules.{Log, Ruling, Replies, NotEvent, Full, begun, with_entry}
use Rattle.audit_file.specs.Replies.{told_reply}
use Rattle.audit_file.specs.Fields.{header_of, caller_of, reply_of}
use Rattle.audit_file.specs.Steps.{Now, Goes, Ends, Reading, Bad, Begins, Passes, Files, Tells, at_place, at_end, by_name, by_count, by_caller, by_text, by_meaning, by_phase, is_here, behind_entry, by_ruling, judged, reading}
use Rattle.audit_file.specs.Verdict.{start, by_step, run, verdict}
use Rattle.audit_file.specs.Told.{Rest, ToldSet, add, reply_next, rest, told, AreAllSets, AreRight, AllRight}

module _ (rule : Log → Message → Ruling) (names : List (List ℕ)) (s t : ℕ) where
  abbrev IsYes : Result Verdict AuditFault → Type 0
  IsYes answer = answer ≡ Ok (Yes s t)

  -- the reply line has the text of the reply
  same_text : (text reply : List ℕ) (b : Bool) → bytes_eq text reply ≡ b → (f : Now → Result Verdict AuditFault) (on off : Now) (v w : ℕ) → IsYes (by_step f (cond b (Goes on) (Ends (Ok (No v w))))) → text ≡ reply
  same_text text reply true e f on off v w is = (bytes_eq-Decides text reply).0 e
  same_text text reply false e f on off v w is = cc is

  text_right : (o : Option (List ℕ)) (f : Now → Result Verdict AuditFault) (n : ℕ) (place : Place) (log : Log) (reply : List ℕ) → IsYes (by_step f (judged rule n place log reply (by_text place o))) → unwrap_or o [] ≡ reply
  text_right None f n place log reply is = cc is
  text_right (Some text) f n place log reply is = same_text text reply (bytes_eq text reply) refl f (record { at = behind_entry place; log = log; reply = reply }) (start 0) place.sets place.entry is

  reply_right : (lines : List (List ℕ)) (n : ℕ) (place : Place) (log : Log) (reply : List ℕ) (stop : Stop) → IsYes (run rule names n (record { at = at_place place phase.AtReply; log = log; reply = reply }) lines stop) → reply_next lines ≡ reply
  unfolding run reading
  reply_right [] n place log reply Whole is = cc is
  reply_right [] n place log reply Open is = cc is
  reply_right [] n place log reply Long is = cc is
  reply_right [] n place log reply Over is = cc is
  reply_right (line ∷ lines) n place log reply stop is = text_right (reply_of line) (λ next. run rule names (n + 1) next lines stop) n place log reply is

  -- what lines tell is right behind this journal
  abbrev AreRightBehind : Log → Rest → Type 0
  AreRightBehind log r = AreRight rule log r.entries × AllRight rule r.sets

  ruled_right : (o : Ruling) (first : ℕ) (place : Place) (log : Log) (caller : ℕ) (m : Message) (lines : List (List ℕ)) (n : ℕ) (stop : Stop) (more : At → Rest) → rule log m ≡ o → ((now : Now) → IsYes (run rule names n now lines stop) → AreRightBehind now.log (more now.at)) → IsYes (by_step (λ next. run rule names n next lines stop) (by_ruling first place log caller o)) → AreRightBehind log (add more place (reply_next lines) (Files first caller m))
  ruled_right (Replies event reply) first place log caller m lines n stop more says further is =
      let next = with_entry log caller event reply in
      let after = further (record { at = at_place place phase.AtReply; log = next; reply = told_reply reply }) is in
      let same : reply_next lines ≡ told_reply reply = reply_right lines n place next (told_reply reply) stop is in
      ((record { event = event; reply = reply; says = says; told = same }, after.0), after.1)
  ruled_right NotEvent first place log caller m lines n stop more says further is = cc is
  ruled_right Full first place log caller m lines n stop more says further is = cc is

  goes_on : (b : Bool) (f : Now → Result Verdict AuditFault) (next : Now) (v w : ℕ) → IsYes (by_step f (cond b (Goes next) (Ends (Ok (No v w))))) → IsYes (f next)
  goes_on true f next v w is = is
  goes_on false f next v w is = cc is

  line_right : (r : Reading) (m n : ℕ) (place : Place) (log : Log) (reply : List ℕ) (lines : List (List ℕ)) (stop : Stop) (more : At → Rest) → ((now : Now) → IsYes (run rule names n now lines stop) → AreRightBehind now.log (more now.at)) → IsYes (by_step (λ next. run rule names n next lines stop) (judged rule m place log reply r)) → AreRightBehind log (add more place (reply_next lines) r)
  line_right Bad m n place log reply lines stop more further is = cc is
  line_right (Begins next set) m n place log reply lines stop more further is = let after = further (record { at = next; log = begun set; reply = reply }) is in (tt, (after.0, after.1))
  line_right (Passes next) m n place log reply lines stop more further is = further (record { at = next; log = log; reply = reply }) is
  line_right (Files first caller message) m n place log reply lines stop more further is = ruled_right (rule log message) first place log caller message lines n stop more refl further is
  line_right (Tells next text) m n place log reply lines stop more further is =
      let now : Now = record { at = next; log = log; reply = reply } in
      further now (goes_on (bytes_eq text reply) (λ then. run rule names n then lines stop) now place.sets place.entry is)

  pub yes_right : (lines : List (List ℕ)) (n : ℕ) (now : Now) (stop : Stop) → IsYes (run rule names n now lines stop) → AreRightBehind now.log (rest names n now.at lines)
  unfolding run rest
  yes_right [] n now stop is = (tt, tt)
  yes_right (line ∷ lines) n now stop is =
      line_right (reading names n now.at line) n (n + 1) now.at.place now.log now.reply lines stop (λ next. rest names (n + 1) next lines) (λ next is_yes. yes_right lines (n + 1) next stop is_yes) is

-- ---- each set is told

-- a line leaves how many sets were begun, but one that begins the next
abbrev Keeps : Place → Reading → Type 0
Keeps place Bad = Unit {0}
Keeps place (Begins next set) = (set ≡ place.sets) × (next.place.sets ≡ place.sets + 1)
Keeps place (Passes next) = next.place.sets ≡ place.sets
Keeps place (Files first caller message) = Unit {0}
Keeps place (Tells next text) = next.place.sets ≡ place.sets

if_keeps : (b : Bool) (place : Place) (x y : Reading) → Keeps place x → Keeps place y → Keeps place (cond b x y)
if_keeps true place x y first second = first
if_keeps false place x y first second = second

count_keeps : (place : Place) (o : Option ℕ) → Keeps place (by_count place o)
count_keeps place None = tt
count_keeps place (Some count) = if_keeps (count == 0) place _ _ (refl, refl) (refl, refl)

name_keeps : (place : Place) (line : List ℕ) (o : Option (List ℕ)) → Keeps place (by_name place line o)
name_keeps place line None = tt
name_keeps place line (Some name) = count_keeps place (header_of name line)

caller_keeps : (place : Place) (o : Option ℕ) → Keeps place (by_caller place o)
caller_keeps place None = tt
caller_keeps place (Some caller) = refl

same_sets : (b : Bool) (sets : ℕ) (x y : At) → x.place.sets ≡ sets → y.place.sets ≡ sets → (cond b x y).place.sets ≡ sets
same_sets true sets x y first second = first
same_sets false sets x y first second = second

text_keeps : (place : Place) (o : Option (List ℕ)) → Keeps place (by_text place o)
text_keeps place None = tt
text_keeps place (Some text) = same_sets (place.entry == place.count) place.sets _ _ refl refl

meaning_keeps : (n : ℕ) (names : List (List ℕ)) (place : Place) (caller : ℕ) (m : Meaning) → Keeps place (by_meaning n names place caller m)
meaning_keeps n names place caller meaning.Bad = tt
meaning_keeps n names place caller (meaning.Tells m) = if_keeps (is_here names place (set_of m)) place _ _ tt tt
meaning_keeps n names place caller (meaning.Opens kind set) = if_keeps (is_here names place set) place _ _ refl tt

phase_keeps : (names : List (List ℕ)) (n : ℕ) (place : Place) (line : List ℕ) (p : Phase) → Keeps place (by_phase names n place line p)
phase_keeps names n place line phase.AtSet = name_keeps place line (slice_get names place.sets)
phase_keeps names n place line phase.AtCaller = caller_keeps place (caller_of line)
phase_keeps names n place line (phase.AtEvent caller) = if_keeps (is_passed_over line) place _ _ refl (meaning_keeps n names place caller (meaning_of line))
phase_keeps names n place line (phase.InBlock held) = if_keeps (is_end line) place _ _ tt refl
phase_keeps names n place line phase.AtReply = text_keeps place (reply_of line)

reading_keeps : (names : List (List ℕ)) (n : ℕ) (at : At) (line : List ℕ) → Keeps at.place (reading names n at line)
unfolding reading
reading_keeps names n at line = phase_keeps names n at.place line at.phase

module _ (rule : Log → Message → Ruling) (names : List (List ℕ)) (s t : ℕ) where
  abbrev AreFrom : ℕ → List ToldSet → Type 0
  AreFrom place sets = AreAllSets (length names) place sets

  ruled_sets : (o : Ruling) (first : ℕ) (place : Place) (log : Log) (caller : ℕ) (sets : List ToldSet) (lines : List (List ℕ)) (n : ℕ) (stop : Stop) → ((now : Now) → now.at ≡ at_place place phase.AtReply → IsYes rule names s t (run rule names n now lines stop) → AreFrom place.sets sets) → IsYes rule names s t (by_step (λ next. run rule names n next lines stop) (by_ruling first place log caller o)) → AreFrom place.sets sets
  ruled_sets (Replies event reply) first place log caller sets lines n stop further is =
      further (record { at = at_place place phase.AtReply; log = with_entry log caller event reply; reply = told_reply reply }) refl is
  ruled_sets NotEvent first place log caller sets lines n stop further is = cc is
  ruled_sets Full first place log caller sets lines n stop further is = cc is

  line_sets : (r : Reading) (m n : ℕ) (place : Place) (log : Log) (reply : List ℕ) (lines : List (List ℕ)) (stop : Stop) (more : At → Rest) → Keeps place r → ((now : Now) → IsYes rule names s t (run rule names n now lines stop) → AreFrom now.at.place.sets (more now.at).sets) → IsYes rule names s t (by_step (λ next. run rule names n next lines stop) (judged rule m place log reply r)) → AreFrom place.sets (add more place (reply_next lines) r).sets
  line_sets Bad m n place log reply lines stop more keeps further is = cc is
  line_sets (Begins next set) m n place log reply lines stop more keeps further is =
      (keeps.0, subst (λ k. AreFrom k (more next).sets) keeps.1 (further (record { at = next; log = begun set; reply = reply }) is))
  line_sets (Passes next) m n place log reply lines stop more keeps further is =
      subst (λ k. AreFrom k (more next).sets) keeps (further (record { at = next; log = log; reply = reply }) is)
  line_sets (Files first caller message) m n place log reply lines stop more keeps further is =
      ruled_sets (rule log message) first place log caller (more (at_place place phase.AtReply)).sets lines n stop
      (λ now same yes. subst (λ (at : At). AreFrom at.place.sets (more at).sets) same (further now yes)) is
  line_sets (Tells next text) m n place log reply lines stop more keeps further is =
      let now : Now = record { at = next; log = log; reply = reply } in
      subst (λ k. AreFrom k (more next).sets) keeps (further now (goes_on rule names s t (bytes_eq text reply) (λ then. run rule names n then lines stop) now place.sets place.entry is))

  all_told : (p : Phase) (place : Place) (n : ℕ) → IsYes rule names s t (at_end names n (at_place place p)) → place.sets ≡ length names
  all_told phase.AtSet place n is = elim (eqb_tells place.sets (length names)) [ inl same ↦ same.1 | inr other ↦ absurd (let no = rw other.0 at is in cc no) ]
  all_told phase.AtCaller place n is = cc is
  all_told (phase.AtEvent caller) place n is = cc is
  all_told (phase.InBlock held) place n is = cc is
  all_told phase.AtReply place n is = cc is

  pub each_set : (lines : List (List ℕ)) (n : ℕ) (now : Now) (stop : Stop) → IsYes rule names s t (run rule names n now lines stop) → AreFrom now.at.place.sets (rest names n now.at lines).sets
  unfolding run rest
  each_set [] n now Whole is = all_told now.at.phase now.at.place n is
  each_set [] n now Open is = cc is
  each_set [] n now Long is = cc is
  each_set [] n now Over is = cc is
  each_set (line ∷ lines) n now stop is =
      line_sets (reading names n now.at line) n (n + 1) now.at.place now.log now.reply lines stop (λ next. rest names (n + 1) next lines) (reading_keeps names n now.at line) (λ next yes. each_set lines (n + 1) next stop yes) is

pub told_all : (rule : Log → Message → Ruling) (names : List (List ℕ)) (taken : List ℕ) (ended : Bool) (s t : ℕ) → verdict rule names taken ended ≡ Ok (Yes s t) → AreAllSets (length names) 0 (told names taken ended)
told_all rule names taken ended s t is = each_set rule names s t (lines taken ended).lines 1 (start (length names)) (lines taken ended).stop is

-- each entry of the file is right after those before it
pub told_right : (rule : Log → Message → Ruling) (names : List (List ℕ)) (taken : List ℕ) (ended : Bool) (s t : ℕ) → verdict rule names taken ended ≡ Ok (Yes s t) → AllRight rule (told names taken ended)
told_right rule names taken ended s t is = (yes_right rule names s t (lines taken ended).lines 1 (start (length names)) (lines taken ended).stop is).1
