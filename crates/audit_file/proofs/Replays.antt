-- The lines of journals that the rule answers as they stand are answered Yes.
use Rattle.std.proofs.Common.{◌≡◌, ℕ, ◌+◌, ◌-◌, ◌<◌, ◌≤◌, ◌^◌, true, false, List, [], ◌∷◌, ◌++◌, ◌==◌, Some, Ok, ◌⊎◌, length, flat_map, codes, refl, sym, ap, ◌∙◌, arith, append_assoc, append-nil, inl, inr, slice_get, length-append}
use Rattle.std.specs.List.{AllByRecursion}
use Rattle.std.specs.Str.{bytes_eq}
use Rattle.std.proofs.lemmas.Slice.Eq.{bytes_eq-Decides}
use Rattle.std.proofs.lemmas.Bool.Decides.{eqb_tells}
use Rattle.std.proofs.lemmas.Map.Text.{is_eq-slice_cmp}
use Rattle.std.proofs.lemmas.Option.{slice_get-get_or}
use Rattle.std.proofs.Math.Seq.{get_or-append_seam}
use Rattle.mh_io.specs.Lines.{Stop, Whole}
use Rattle.feed_reader.specs.CsaTerms.SimmKinds.Order.{same_name}
use Rattle.feed_reader.specs.declared.message.BlockKind.{BlockKind}
use Rattle.feed_reader.specs.declared.message.BlockKind.TheVariants as kind
use Rattle.feed_reader.specs.declared.message.Message.{Message}
use Rattle.feed_reader.specs.declared.message.Meaning.TheVariants as meaning
use Rattle.feed_reader.specs.Messages.{block_message}
use Rattle.feed_reader.specs.Feed.{block_of}
use Rattle.feed_reader.specs.Line.{is_passed_over, meaning_of, is_end}
use Rattle.feed_events.specs.SetCore.declared.event.Event.{Event}
use Rattle.feed_events.specs.SetCore.declared.event.Event.TheVariants as event
use Rattle.feed_events.specs.SetCore.declared.reply.Reply.{Reply}
use Rattle.feed_events.specs.SetCore.HeldCell.declared.entry.Entry.{Entry}
use Rattle.feed_events.specs.Events.{set_of}
use Rattle.feed_writer.specs.Messages.{message_lines}
use Rattle.feed_writer.proofs.Reading.{TellsInLine, TellsInBlock, told}
use Rattle.audit_file.specs.declared.answer.Verdict.TheVariants.{Yes}
use Rattle.audit_file.specs.declared.place.Place.{Place}
use Rattle.audit_file.specs.declared.place.Phase.{Phase}
use Rattle.audit_file.specs.declared.place.Phase.TheVariants as phase
use Rattle.audit_file.specs.declared.place.At.{At}
use Rattle.audit_file.specs.Replies.{told_reply}
use Rattle.audit_file.specs.Rules.{Log, Ruling, Replies, begun, with_entry}
use Rattle.audit_file.specs.Steps.{Now, Goes, goes, at_place, behind_entry, judged, reading, step, by_caller, by_ruling, by_name, by_count, by_text, is_here, is_named, begins}
use Rattle.audit_file.specs.Verdict.{run}
use Rattle.audit_file.specs.Written.{message_of, header_line, caller_line, reply_line, CanTell, CanAudit, Journal, names_of, all_entries, IsLegalBy, AreLegalBy}
use Rattle.audit_file.proofs.Numbers.{caller_reads, header_reads, reply_reads}
use Rattle.audit_file.proofs.Readings.{run_goes, run_stops}

-- ---- the lines of a file

abbrev pub entry_lines : List ℕ → Entry Event Reply → List (List ℕ)
entry_lines name e = caller_line e.caller ∷ (message_lines (message_of name e.event) ++ reply_line e.reply ∷ [])

abbrev pub journal_lines : Journal → List (List ℕ)
journal_lines j = header_line j.name (length j.entries) ∷ flat_map (entry_lines j.name) j.entries

abbrev pub file_lines : List Journal → List (List ℕ)
file_lines js = flat_map journal_lines js

-- ---- lemmas

same_bytes : (bs : List ℕ) → bytes_eq bs bs ≡ true
same_bytes bs = (bytes_eq-Decides bs bs).1 refl

same_self : (name : List ℕ) → same_name name name ≡ true
same_self name = is_eq-slice_cmp name name ∙ same_bytes name

regroup : (block line rest : List ℕ) → block ++ ((line ++ 10 ∷ []) ++ rest) ≡ (block ++ line ++ 10 ∷ []) ++ rest
regroup block line rest = simp append_assoc

abbrev at_now : Place → Phase → Log → List ℕ → Now
at_now place phase log reply = record { at = at_place place phase; log = log; reply = reply }

not_none : (n : ℕ) → 0 < n → (n == 0) ≡ false
not_none n some = elim (eqb_tells n 0) [ inl same ↦ absurd (let none = same.1 in omega arith) | inr other ↦ other.0 ]

-- the element behind others
get_seam : (xs : List (List ℕ)) (y : List ℕ) (ys : List (List ℕ)) → slice_get (xs ++ y ∷ ys) (length xs) ≡ Some y
get_seam xs y ys = slice_get-get_or (xs ++ y ∷ ys) (length xs) [] (omega (arith, length-append xs (y ∷ ys))) ∙ ap (λ x. Some x) (get_or-append_seam xs y ys [])

set_is : (name : List ℕ) (e : Event) → set_of (message_of name e) ≡ name
set_is name (event.Submit trades) = refl
set_is name (event.Withdraw names) = refl
set_is name (event.Tables text) = refl
set_is name (event.OnSide on e) = refl

block_set : (kind : BlockKind) (set block : List ℕ) → set_of (block_message kind set block) ≡ set
block_set kind.Crif set block = refl
block_set kind.Tables set block = refl

module _ (rule : Log → Message → Ruling) (names : List (List ℕ)) where
  -- behind these lines the reading came so far
  abbrev Reaches : ℕ → Now → List (List ℕ) → List (List ℕ) → Stop → Now → Type 0
  Reaches n now lines further stop next = (m : ℕ) × (run rule names n now (lines ++ further) stop ≡ run rule names m next further stop)

  then_reaches : (n : ℕ) (a b c : Now) (xs ys further : List (List ℕ)) (stop : Stop) → Reaches n a xs (ys ++ further) stop b → ((m : ℕ) → Reaches m b ys further stop c) → Reaches n a (xs ++ ys) further stop c
  then_reaches n a b c xs ys further stop first second =
      let next = second first.0 in (
        next.0,
        ap (λ ls. run rule names n a ls stop) (append_assoc xs ys further) ∙ (first.1 ∙ next.1),
      )

  one_line : (n : ℕ) (a b : Now) (line : List ℕ) (further : List (List ℕ)) (stop : Stop) → step rule names n a line ≡ Goes b → Reaches n a (line ∷ []) further stop b
  one_line n a b line further stop e = (n + 1, run_goes rule names n a b line further stop e)

  -- ---- the lines of an entry

  caller_step : (n : ℕ) (place : Place) (log : Log) (old : List ℕ) (caller : ℕ) → caller < 1024 → step rule names n (at_now place phase.AtCaller log old) (caller_line caller) ≡ goes (at_place place (phase.AtEvent caller)) log old
  unfolding reading
  caller_step n place log old caller few = ap (λ o. judged rule n place log old (by_caller place o)) (caller_reads caller few)

  line_step : (n : ℕ) (place : Place) (log : Log) (old : List ℕ) (caller : ℕ) (line : List ℕ) (m : Message) (e : Event) (r : Reply) → is_passed_over line ≡ false → meaning_of line ≡ meaning.Tells m → is_here names place (set_of m) ≡ true → rule log m ≡ Replies e r → step rule names n (at_now place (phase.AtEvent caller) log old) line ≡ goes (at_place place phase.AtReply) (with_entry log caller e r) (told_reply r)
  unfolding reading
  line_step n place log old caller line m e r full tells here says = rw (full, tells, here, says) refl

  abbrev block_now : Place → ℕ → ℕ → BlockKind → List ℕ → List ℕ → Phase
  block_now place caller first kind set block = phase.InBlock (record { caller = caller; first = first; kind = kind; set = set; block = block })

  open_step : (n : ℕ) (place : Place) (log : Log) (old : List ℕ) (caller : ℕ) (line : List ℕ) (kind : BlockKind) (set : List ℕ) → is_passed_over line ≡ false → meaning_of line ≡ meaning.Opens kind set → is_here names place set ≡ true → step rule names n (at_now place (phase.AtEvent caller) log old) line ≡ goes (at_place place (block_now place caller n kind set [])) log old
  unfolding reading
  open_step n place log old caller line kind set full opens here = rw (full, opens, here) refl

  inside_step : (n : ℕ) (place : Place) (log : Log) (old : List ℕ) (caller first : ℕ) (kind : BlockKind) (set block line : List ℕ) → is_end line ≡ false → step rule names n (at_now place (block_now place caller first kind set block) log old) line ≡ goes (at_place place (block_now place caller first kind set (block ++ line ++ 10 ∷ []))) log old
  unfolding reading
  inside_step n place log old caller first kind set block line other = rw other refl

  end_step : (n : ℕ) (place : Place) (log : Log) (old : List ℕ) (caller first : ℕ) (kind : BlockKind) (set block : List ℕ) (e : Event) (r : Reply) → rule log (block_message kind set block) ≡ Replies e r → step rule names n (at_now place (block_now place caller first kind set block) log old) (codes "END") ≡ goes (at_place place phase.AtReply) (with_entry log caller e r) (told_reply r)
  unfolding reading
  end_step n place log old caller first kind set block e r says = ap (by_ruling first place log caller) says

  reply_step : (n : ℕ) (place : Place) (log : Log) (r : Reply) → step rule names n (at_now place phase.AtReply log (told_reply r)) (reply_line r) ≡ goes (behind_entry place) log (told_reply r)
  unfolding reading
  reply_step n place log r = ap (λ o. judged rule n place log (told_reply r) (by_text place o)) (reply_reads r) ∙ rw (same_bytes (told_reply r)) refl

  -- the lines within a block
  block_told : (inside : List (List ℕ)) (n : ℕ) (place : Place) (log : Log) (old : List ℕ) (caller first : ℕ) (kind : BlockKind) (set block whole : List ℕ) (e : Event) (r : Reply) (further : List (List ℕ)) (stop : Stop) → AllByRecursion (λ line. is_end line ≡ false) inside → whole ≡ block ++ block_of inside → rule log (block_message kind set whole) ≡ Replies e r → Reaches n (at_now place (block_now place caller first kind set block) log old) (inside ++ codes "END" ∷ []) further stop (at_now place phase.AtReply (with_entry log caller e r) (told_reply r))
  block_told [] n place log old caller first kind set block whole e r further stop within all says =
      let same : whole ≡ block = all ∙ append-nil block in
      one_line n _ _ (codes "END") further stop (end_step n place log old caller first kind set block e r (rw same at says))
  block_told (line ∷ inside) n place log old caller first kind set block whole e r further stop within all says =
      let next = block ++ line ++ 10 ∷ [] in
      let same : whole ≡ next ++ block_of inside = all ∙ regroup block line (block_of inside) in
      let after = block_told inside (n + 1) place log old caller first kind set next whole e r further stop within.1 same says in
      (after.0, run_goes rule names n _ _ line ((inside ++ codes "END" ∷ []) ++ further) stop (inside_step n place log old caller first kind set block line within.0) ∙ after.1)

  -- the lines of a message
  message_told : (m : Message) (lines : List (List ℕ)) (n : ℕ) (place : Place) (log : Log) (old : List ℕ) (caller : ℕ) (e : Event) (r : Reply) (further : List (List ℕ)) (stop : Stop) → TellsInLine m lines ⊎ TellsInBlock m lines → is_here names place (set_of m) ≡ true → rule log m ≡ Replies e r → Reaches n (at_now place (phase.AtEvent caller) log old) lines further stop (at_now place phase.AtReply (with_entry log caller e r) (told_reply r))
  message_told m lines n place log old caller e r further stop (inl t) here says =
      rw t.are (one_line n _ _ t.line further stop (line_step n place log old caller t.line m e r t.full t.tells here says))
  message_told m lines n place log old caller e r further stop (inr t) here says =
      let there : is_here names place t.set ≡ true = rw (t.message, block_set t.kind t.set (block_of t.inside)) at here in
      let after = block_told t.inside (n + 1) place log old caller n t.kind t.set [] (block_of t.inside) e r further stop t.within refl (rw t.message at says) in
      rw t.are (after.0, run_goes rule names n _ _ t.first ((t.inside ++ codes "END" ∷ []) ++ further) stop (open_step n place log old caller t.first t.kind t.set t.full t.opens there) ∙ after.1)

  -- the lines of an entry
  entry_told : (name : List ℕ) (e : Entry Event Reply) (n : ℕ) (place : Place) (log : Log) (old : List ℕ) (next : At) (further : List (List ℕ)) (stop : Stop) → slice_get names (place.sets - 1) ≡ Some name → CanTell name e → rule log (message_of name e.event) ≡ Replies e.event e.reply → behind_entry place ≡ next → Reaches n (at_now place phase.AtCaller log old) (entry_lines name e) further stop (record { at = next; log = with_entry log e.caller e.event e.reply; reply = told_reply e.reply })
  entry_told name e n place log old next further stop here can says goes_to =
      let m = message_of name e.event in
      let after = with_entry log e.caller e.event e.reply in
      let is = told m can.message in
      let named : is_here names place (set_of m) ≡ true = rw (set_is name e.event) (ap (λ o. is_named o name) here ∙ same_self name) in
      then_reaches n _ _ _ (caller_line e.caller ∷ []) (message_lines m ++ reply_line e.reply ∷ []) further stop
      (one_line n _ _ (caller_line e.caller) _ stop (caller_step n place log old e.caller can.caller))
      (λ m1. then_reaches m1 _ _ _ (message_lines m) (reply_line e.reply ∷ []) further stop
      (message_told m (message_lines m) m1 place log old e.caller e.event e.reply (reply_line e.reply ∷ further) stop is.shape named says)
      (λ k. one_line k _ _ (reply_line e.reply) further stop (reply_step k place after e.reply ∙ ap (λ at. goes at after (told_reply e.reply)) goes_to)))

  -- behind the last entry of a set, and behind another
  told_last : (place : Place) (total : ℕ) → place.entry ≡ place.count → total ≡ place.total + 1 → behind_entry place ≡ at_place (record { sets = place.sets; entry = place.count; count = place.count; total = total }) phase.AtSet
  told_last place total e all = elim (eqb_tells place.entry place.count) [
    | inl same ↦ rw (same.0, e, all) refl
    | inr other ↦ absurd (other.1 e)
  ]

  told_more : (place : Place) (left : ℕ) → place.entry + (1 + left) ≡ place.count → behind_entry place ≡ at_place (record { sets = place.sets; entry = place.entry + 1; count = place.count; total = place.total + 1 }) phase.AtCaller
  told_more place left e = elim (eqb_tells place.entry place.count) [
    | inl same ↦ absurd (let same_count = same.1 in omega arith)
    | inr other ↦ rw other.0 refl
  ]

  -- the entries of a set, of which there is one
  entries_told : (name : List ℕ) (e : Entry Event Reply) (es : List (Entry Event Reply)) (n : ℕ) (place : Place) (log : Log) (old : List ℕ) (total : ℕ) (further : List (List ℕ)) (stop : Stop) → slice_get names (place.sets - 1) ≡ Some name → AllByRecursion (CanTell name) (e ∷ es) → IsLegalBy rule name log (e ∷ es) → place.entry + length es ≡ place.count → total ≡ place.total + length (e ∷ es) → (after : Log) × (said : List ℕ) × Reaches n (at_now place phase.AtCaller log old) (flat_map (entry_lines name) (e ∷ es)) further stop (at_now (record { sets = place.sets; entry = place.count; count = place.count; total = total }) phase.AtSet after said)
  entries_told name e [] n place log old total further stop here can legal last all =
      let after = with_entry log e.caller e.event e.reply in
      let one : total ≡ place.total + 1 = all ∙ omega arith in
      let at_last : place.entry ≡ place.count = omega (arith, last) in
      (after, told_reply e.reply, then_reaches n _ _ _ (entry_lines name e) [] further stop (entry_told name e n place log old _ further stop here can.0 legal.0 (told_last place total at_last one)) (λ m. (m, refl)))
  entries_told name e (f ∷ fs) n place log old total further stop here can legal last all =
      let after = with_entry log e.caller e.event e.reply in
      let next : Place = record { sets = place.sets; entry = place.entry + 1; count = place.count; total = place.total + 1 } in
      let more : place.entry + (1 + length fs) ≡ place.count = omega (arith, last) in
      let first = entry_told name e n place log old (at_place next phase.AtCaller) (flat_map (entry_lines name) (f ∷ fs) ++ further) stop here can.0 legal.0 (told_more place (length fs) more) in
      let rest = entries_told name f fs first.0 next after (told_reply e.reply) total further stop here can.1 legal.1 (omega (arith, more)) (omega (arith, all)) in (
        rest.0,
        rest.1,
        (
          rest.2.0,
          ap (λ ls. run rule names n (at_now place phase.AtCaller log old) ls stop) (append_assoc (entry_lines name e) (flat_map (entry_lines name) (f ∷ fs)) further) ∙ (first.1 ∙ rest.2.1),
        ),
      )

  -- ---- the sets

  header_step : (n : ℕ) (place : Place) (log : Log) (old name : List ℕ) (count : ℕ) → slice_get names place.sets ≡ Some name → count < 2 ^ 32 → step rule names n (at_now place phase.AtSet log old) (header_line name count) ≡ judged rule n place log old (begins place count)
  unfolding reading
  header_step n place log old name count at few =
      ap (λ o. judged rule n place log old (by_name place (header_line name count) o)) at ∙ ap (λ o. judged rule n place log old (by_count place o)) (header_reads name count few)

  -- the lines of a set
  journal_told : (name : List ℕ) (es : List (Entry Event Reply)) (n : ℕ) (place : Place) (log : Log) (old : List ℕ) (total : ℕ) (further : List (List ℕ)) (stop : Stop) → slice_get names place.sets ≡ Some name → length es ≤ 65535 → AllByRecursion (CanTell name) es → IsLegalBy rule name (begun place.sets) es → total ≡ place.total + length es → (after : Log) × (said : List ℕ) × Reaches n (at_now place phase.AtSet log old) (header_line name (length es) ∷ flat_map (entry_lines name) es) further stop (at_now (record { sets = place.sets + 1; entry = length es; count = length es; total = total }) phase.AtSet after said)
  journal_told name [] n place log old total further stop at few can legal all =
      let same : total ≡ place.total = all ∙ omega arith in
      (begun place.sets, old, rw same (one_line n _ _ (header_line name 0) further stop (header_step n place log old name 0 at (omega arith))))
  journal_told name (e ∷ es) n place log old total further stop at few can legal all =
      let next : Place = record { sets = place.sets + 1; entry = 1; count = length (e ∷ es); total = place.total } in
      let here : slice_get names (place.sets + 1 - 1) ≡ Some name = (let same : place.sets + 1 - 1 ≡ place.sets = omega arith in rw same at) in
      let some : (length (e ∷ es) == 0) ≡ false = not_none (length (e ∷ es)) (omega arith) in
      let goes_to : judged rule n place log old (begins place (length (e ∷ es))) ≡ goes (at_place next phase.AtCaller) (begun place.sets) old = rw some refl in
      let rest = entries_told name e es (n + 1) next (begun place.sets) old total further stop here can legal (omega arith) all in
      (rest.0, rest.1, (rest.2.0, run_goes rule names n _ _ (header_line name (length (e ∷ es))) (flat_map (entry_lines name) (e ∷ es) ++ further) stop (header_step n place log old name (length (e ∷ es)) at (omega (arith, few)) ∙ goes_to) ∙ rest.2.1))

  -- the end, where each set was told
  ends_yes : (n : ℕ) (place : Place) (log : Log) (old : List ℕ) → place.sets ≡ length names → run rule names n (at_now place phase.AtSet log old) [] Whole ≡ Ok (Yes place.sets place.total)
  ends_yes n place log old e = elim (eqb_tells place.sets (length names)) [
    | inl same ↦ run_stops rule names n (at_now place phase.AtSet log old) Whole ∙ rw same.0 refl
    | inr other ↦ absurd (other.1 e)
  ]

  pub journals_told : (js : List Journal) (done : List (List ℕ)) (n : ℕ) (place : Place) (log : Log) (old : List ℕ) (total : ℕ) → names ≡ done ++ names_of js → place.sets ≡ length done → AllByRecursion CanAudit js → AreLegalBy rule place.sets js → total ≡ place.total + all_entries js → run rule names n (at_now place phase.AtSet log old) (file_lines js) Whole ≡ Ok (Yes (length names) total)
  journals_told [] done n place log old total all at can legal count =
      let e : place.sets ≡ length names = at ∙ ap length (sym (all ∙ append-nil done)) in
      let same : total ≡ place.total = count ∙ omega arith in
      ends_yes n place log old e ∙ rw (e, same) refl
  journals_told (j ∷ js) done n place log old total all at can legal count =
      let here : slice_get names place.sets ≡ Some j.name = rw (all, at) (get_seam done j.name (names_of js)) in
      let then_total = place.total + length j.entries in
      let told_now = journal_told j.name j.entries n place log old then_total (file_lines js) Whole here can.0.few can.0.entries legal.0 refl in
      let next : Place = record { sets = place.sets + 1; entry = length j.entries; count = length j.entries; total = then_total } in
      let regrouped : names ≡ (done ++ j.name ∷ []) ++ names_of js = all ∙ sym (append_assoc done (j.name ∷ []) (names_of js)) in
      told_now.2.1 ∙ journals_told js (done ++ j.name ∷ []) told_now.2.0 next told_now.0 told_now.1 total regrouped (ap (λ k. k + 1) at ∙ sym (length-append done (j.name ∷ []))) can.1 legal.1 (count ∙ omega arith)
