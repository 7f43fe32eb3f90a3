-- The text of journals is that of the lines that it is cut into, and is answered Yes.
use Rattle.std.proofs.Common.{◌≡◌, ℕ, ◌+◌, ◌<◌, ◌≤◌, ◌^◌, arith, suc, true, false, List, [], ◌∷◌, ◌++◌, flat_map, length, Ok, decimal, codes, refl, sym, ap, ◌∙◌, append-nil}
use Rattle.std.specs.List.{AllByRecursion}
use Rattle.std.proofs.lemmas.Grind.{flat_map-append}
use Rattle.std.proofs.lemmas.List.Elements.{All-nil}
use Rattle.mh_io.specs.Lines.{LineRun, Whole, with_lines, stopped, is_lf, lines_behind, lines}
use Rattle.mh_io.specs.Limits.{most_bytes}
use Rattle.mh_io.proofs.LinesRuns.{part_run}
use Rattle.feed_reader.specs.CsaTerms.SimmKinds.NameText.{is_full_name}
use Rattle.feed_reader.specs.declared.message.Message.{Message}
use Rattle.feed_events.specs.SetCore.HeldCell.declared.entry.Entry.{Entry}
use Rattle.feed_events.specs.SetCore.declared.event.Event.{Event}
use Rattle.feed_events.specs.SetCore.declared.reply.Reply.{Reply}
use Rattle.feed_writer.specs.Lines.{line_text, lines_text, IsTextLine, IsPlainLine}
use Rattle.feed_writer.specs.Messages.{with_lf, message_lines}
use Rattle.feed_writer.proofs.WrittenLines.{lines_read}
use Rattle.feed_writer.proofs.LineFields.{full_name_field}
use Rattle.feed_writer.proofs.Values.{number_field}
use Rattle.feed_writer.proofs.Reading.{widened, short_line, told, both_all}
use Rattle.audit_file.specs.declared.answer.Verdict.TheVariants.{Yes}
use Rattle.audit_file.specs.Rules.{Log, Ruling, begun}
use Rattle.audit_file.specs.Verdict.{start, start_at, run, verdict}
use Rattle.audit_file.specs.Written.{message_of, header_line, caller_line, reply_line, entry_text, text_of, file_text, Journal, CanTell, CanAudit, names_of, all_entries, AreLegalBy}
use Rattle.audit_file.proofs.ReplyLines.{reply_plain}
use Rattle.audit_file.proofs.Replays.{entry_lines, journal_lines, file_lines, journals_told}

-- ---- the lines beside those of messages

caller_plain : (caller : ℕ) → caller < 1024 → IsPlainLine (caller_line caller)
caller_plain caller few =
    short_line (codes "BY") (decimal caller ∷ [])
    (widened (codes "BY" ∷ decimal caller ∷ []) (record { bytes = refl; few = omega arith }, (number_field caller (omega (arith, few)), tt)))
    (omega arith)

header_plain : (name : List ℕ) (count : ℕ) → is_full_name name ≡ true → count < 2 ^ 32 → IsPlainLine (header_line name count)
header_plain name count full few =
    short_line (codes "AUDIT") (name ∷ decimal count ∷ [])
    (widened (codes "AUDIT" ∷ name ∷ decimal count ∷ []) (record { bytes = refl; few = omega arith }, (full_name_field name full, (number_field count few, tt))))
    (omega arith)

plain_text : (line : List ℕ) → IsPlainLine line → with_lf line ≡ line_text line
plain_text line plain = ap (λ (l : List ℕ). l ++ 10 ∷ []) (sym plain.same)

-- ---- the text of an entry, of a set, and of all

-- what can be told of a set is the text of its lines, each of which is read as it was
record AreLines (text : List ℕ) (ls : List (List ℕ)) : Type 0 where
  text_is : text ≡ lines_text ls
  are : AllByRecursion IsTextLine ls

both : (xs ys : List ℕ) (ls ms : List (List ℕ)) → AreLines xs ls → AreLines ys ms → AreLines (xs ++ ys) (ls ++ ms)
both xs ys ls ms first second = record {
  text_is = ap (λ (t : List ℕ). t ++ ys) first.text_is ∙ (ap (λ (t : List ℕ). lines_text ls ++ t) second.text_is ∙ sym (flat_map-append line_text ls ms));
  are = both_all IsTextLine ls ms first.are second.are;
}

one : (line : List ℕ) → IsPlainLine line → AreLines (with_lf line) (line ∷ [])
one line plain = record { text_is = plain_text line plain ∙ sym (append-nil (line_text line)); are = (plain.is, tt) }

entry_is : (name : List ℕ) (e : Entry Event Reply) → CanTell name e → AreLines (entry_text name e) (entry_lines name e)
entry_is name e can =
    let m = message_of name e.event in
    let is = told m can.message in
    both (with_lf (caller_line e.caller)) _ (caller_line e.caller ∷ []) (message_lines m ++ reply_line e.reply ∷ []) (one (caller_line e.caller) (caller_plain e.caller can.caller))
    (both _ (with_lf (reply_line e.reply)) (message_lines m) (reply_line e.reply ∷ []) (record { text_is = is.text; are = is.lines }) (one (reply_line e.reply) (reply_plain e.reply)))

entries_are : (name : List ℕ) (es : List (Entry Event Reply)) → AllByRecursion (CanTell name) es → AreLines (flat_map (entry_text name) es) (flat_map (entry_lines name) es)
entries_are name [] can = record { text_is = refl; are = tt }
entries_are name (e ∷ es) can = both (entry_text name e) (flat_map (entry_text name) es) (entry_lines name e) (flat_map (entry_lines name) es) (entry_is name e can.0) (entries_are name es can.1)

journal_is : (j : Journal) → CanAudit j → AreLines (text_of j) (journal_lines j)
journal_is j can =
    let few = can.few in
    let header = header_line j.name (length j.entries) in
    both (with_lf header) (flat_map (entry_text j.name) j.entries) (header ∷ []) (flat_map (entry_lines j.name) j.entries)
    (one header (header_plain j.name (length j.entries) can.name (omega (arith, few)))) (entries_are j.name j.entries can.entries)

file_is : (js : List Journal) → AllByRecursion CanAudit js → AreLines (file_text js) (file_lines js)
file_is [] can = record { text_is = refl; are = tt }
file_is (j ∷ js) can = both (text_of j) (file_text js) (journal_lines j) (file_lines js) (journal_is j can.0) (file_is js can.1)

-- ---- the verdict

same_count : (js : List Journal) → length (names_of js) ≡ length js
same_count [] = refl
same_count (j ∷ js) = ap (λ n. suc n) (same_count js)

nothing_behind : (passed : ℕ) → passed ≤ most_bytes → lines_behind passed [] true ≡ stopped Whole
nothing_behind passed near = part_run passed [] true (record { text = All-nil (λ b. is_lf b ≡ false); short = omega arith; near = omega (arith, near) })

text_lines : (ls : List (List ℕ)) → AllByRecursion IsTextLine ls → length (lines_text ls) ≤ most_bytes → lines (lines_text ls) true ≡ record { lines = ls; stop = Whole }
text_lines ls are near =
    ap (λ (t : List ℕ). lines t true) (sym (append-nil (lines_text ls)))
    ∙ (lines_read ls 0 [] true are (omega (arith, near))
    ∙ (ap (with_lines ls) (nothing_behind (0 + length (lines_text ls)) (omega (arith, near)))
    ∙ ap (λ (all : List (List ℕ)). let run_of : LineRun = record { lines = all; stop = Whole } in run_of) (append-nil ls)))

-- the text of journals that the rule answers as they stand is answered Yes
pub text_yes : (rule : Log → Message → Ruling) (js : List Journal) → AllByRecursion CanAudit js → AreLegalBy rule 0 js → length (file_text js) ≤ most_bytes → verdict rule (names_of js) (file_text js) true ≡ Ok (Yes (length js) (all_entries js))
text_yes rule js can legal few =
    let is = file_is js can in
    let near : length (lines_text (file_lines js)) ≤ most_bytes = omega (arith, few, ap length is.text_is) in
    ap (λ (t : List ℕ). verdict rule (names_of js) t true) is.text_is
    ∙ (ap (λ (r : LineRun). run rule (names_of js) 1 (start (length (names_of js))) r.lines r.stop) (text_lines (file_lines js) is.are near)
    ∙ (journals_told rule (names_of js) js [] 1 start_at.place (begun (length (names_of js))) [] (all_entries js) refl refl can legal (omega arith)
    ∙ ap (λ n. Ok (Yes n (all_entries js))) (same_count js)))
