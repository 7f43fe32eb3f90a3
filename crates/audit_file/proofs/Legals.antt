-- Entries that are right by the written rule are legal journals, and legal journals are right.
use Rattle.std.proofs.Common.{◌≡◌, ℕ, ◌+◌, ◌<◌, ◌≤◌, arith, Bool, true, false, nat_le, nat_lt, List, [], ◌∷◌, ◌++◌, length, slice_get, Option, Some, None, Result, Ok, Err, refl, sym, ap, ◌∙◌, subst, append-nil, append_assoc, length-append}
use Rattle.std.specs.List.{AllZip, AllByRecursion}
use Rattle.std.proofs.lemmas.Bool.Decides.{nat_tests}
use Rattle.std.proofs.lemmas.Option.{slice_get-get_or}
use Rattle.std.proofs.lemmas.List.Sums.{sum_by-append, sum_by-cons}
use Rattle.std.proofs.Math.Seq.{get_or-append_seam}
use Rattle.feed_reader.specs.CsaTerms.Terms.{Agreements}
use Rattle.feed_events.specs.SetCore.SimmRules.Params.{Params}
use Rattle.feed_events.specs.SetCore.HeldCell.declared.entry.Entry.{Entry}
use Rattle.feed_events.specs.SetCore.HeldCell.Entries.{entry}
use Rattle.feed_events.specs.SetCore.declared.event.Event.{Event}
use Rattle.feed_events.specs.SetCore.declared.reply.Reply.{Reply}
use Rattle.feed_events.specs.SetCore.Answer.{answer, IsLegal}
use Rattle.feed_events.specs.SetCore.Room.{is_full, journal_rows, event_rows}
use Rattle.feed_events.specs.SetCore.Set.{IsSet}
use Rattle.feed_events.proofs.SetCore.Legal.{legal-push}
use Rattle.feed_events.specs.declared.block.BlockFault.{BlockFault}
use Rattle.feed_events.specs.Events.{event_of}
use Rattle.audit_file.specs.Rules.{Base, Replies}
use Rattle.audit_file.specs.Told.{ToldEntry, ToldSet, AreRight, AllRight}
use Rattle.audit_file.specs.Replays.{ruling_of, ruling_in, rule_of, IsTold, TellsLegal, IsJournal, AreJournals}
use Rattle.audit_file.specs.Written.{Journal, CanTell, CanAudit, HoldsEvent, message_of, IsLegalBy, AreLegalBy}
use Rattle.audit_file.proofs.Messages.{event_back}

-- ---- what is told is legal

-- an event that was answered by the rule is that of its message, and the reply is the answer
record IsAnswerOf (p : Params) (t : Agreements) (before : List (Entry Event Reply)) (read : Result Event BlockFault) (e : Event) (r : Reply) : Type 0 where
  event : read ≡ Ok e
  reply : r ≡ answer p t before e

replied : (e f : Event) (r s : Reply) → Replies e r ≡ Replies f s → (e ≡ f) × (r ≡ s)
replied e f r s is = (cc is, cc is)

answered : (p : Params) (t : Agreements) (before : List (Entry Event Reply)) (read : Result Event BlockFault) (e : Event) (r : Reply) → ruling_of p t before read ≡ Replies e r → IsAnswerOf p t before read e r
answered p t before (Err fault) e r is = cc is
answered p t before (Ok f) e r is = by_room (is_full before f) refl
  where
    by_room : (full : Bool) → is_full before f ≡ full → IsAnswerOf p t before (Ok f) e r
    by_room true there = absurd (cc (rw there at is))
    by_room false room =
        let same = replied f e (answer p t before f) r (rw room at is) in
        record { event = ap (λ (x : Event). Ok x) same.0; reply = sym same.1 ∙ ap (answer p t before) same.0 }

-- the same where the terms are looked up
record IsRuled (p : Params) (o : Option Agreements) (before : List (Entry Event Reply)) (read : Result Event BlockFault) (e : Event) (r : Reply) : Type 0 where
  event : read ≡ Ok e
  reply : (t : Agreements) → o ≡ Some t → r ≡ answer p t before e

ruled : (p : Params) (before : List (Entry Event Reply)) (read : Result Event BlockFault) (o : Option Agreements) (e : Event) (r : Reply) → ruling_in p before read o ≡ Replies e r → IsRuled p o before read e r
ruled p before read None e r is = cc is
ruled p before read (Some t) e r is =
    let a = answered p t before read e r is in
    record { event = a.event; reply = λ u same. a.reply ∙ ap (λ x. answer p x before e) (some_same t u same) }
  where
    some_same : (t u : Agreements) → Some t ≡ Some u → t ≡ u
    some_same t u same = cc same

module _ (base : Base) where
  -- further entries of a set
  record IsFurther (set : ℕ) (before : List (Entry Event Reply)) (es : List ToldEntry) : Type 0 where
    log : List (Entry Event Reply)
    entries : AllZip IsTold log es
    legal : (t : Agreements) → slice_get base.terms set ≡ Some t → IsLegal base.params t before → IsLegal base.params t (before ++ log)

  further : (set : ℕ) (before : List (Entry Event Reply)) (es : List ToldEntry) → AreRight (rule_of base) (record { set = set; entries = before }) es → IsFurther set before es
  unfolding rule_of
  further set before [] are = record { log = []; entries = tt; legal = λ t there legal. subst (IsLegal base.params t) (sym (append-nil before)) legal }
  further set before (e ∷ es) are =
      let right = are.0 in
      let one = ruled base.params before (event_of e.message) (slice_get base.terms set) right.event right.reply right.says in
      let first = entry e.caller right.event right.reply in
      let rest = further set (before ++ first ∷ []) es are.1 in
      record {
        log = first ∷ rest.log;
        entries = (record { caller = refl; event = one.event; reply = right.told }, rest.entries);
        legal = λ t there legal. subst (IsLegal base.params t) (append_assoc before (first ∷ []) rest.log) (rest.legal t there (legal-push base.params t before first legal (one.reply t there)));
      }

  nothing_legal : (t : Agreements) → IsLegal base.params t []
  nothing_legal t before after e is = absurd (none before after e is)
    where
      none : (before after : List (Entry Event Reply)) (e : Entry Event Reply) → [] ≡ before ++ e ∷ after → ⊥
      none [] after e is = cc is
      none (b ∷ before) after e is = cc is

  pub told_legal : (ss : List ToldSet) → AllRight (rule_of base) ss → TellsLegal base ss
  told_legal [] are = tt
  told_legal (s ∷ ss) are =
      let all = further s.set [] s.entries are.0 in
      (record { log = all.log; entries = all.entries; legal = λ t there. all.legal t there (nothing_legal t) }, told_legal ss are.1)

-- ---- legal journals are right

below : (a b : ℕ) → a < b → nat_le b a ≡ false
below a b h = grind (arith, nat_tests)

within : (a b : ℕ) → a ≤ b → nat_lt b a ≡ false
within a b h = grind (arith, nat_tests)

rows_front : (before : List (Entry Event Reply)) (e : Entry Event Reply) (es : List (Entry Event Reply)) → journal_rows before + event_rows e.event ≤ journal_rows (before ++ e ∷ es)
rows_front before e es =
    let all = sum_by-append (λ (x : Entry Event Reply). event_rows x.event) before (e ∷ es) in
    let first = sum_by-cons (λ (x : Entry Event Reply). event_rows x.event) e es in
    omega (arith, all, first)

room_before : (before : List (Entry Event Reply)) (e : Entry Event Reply) (es : List (Entry Event Reply)) → length (before ++ e ∷ es) ≤ 65535 → journal_rows (before ++ e ∷ es) ≤ 500000 → is_full before e.event ≡ false
room_before before e es few light =
    let rows = rows_front before e es in
    rw (below (length before) 65535 (omega (arith, few, length-append before (e ∷ es))), within (journal_rows before + event_rows e.event) 500000 (omega (arith, rows, light))) refl

module _ (base : Base) where
  entry_right : (t : Agreements) (name : List ℕ) (set : ℕ) (before : List (Entry Event Reply)) (e : Entry Event Reply) (es : List (Entry Event Reply)) → slice_get base.terms set ≡ Some t → IsSet base.params t (before ++ e ∷ es) → HoldsEvent e.event → rule_of base (record { set = set; entries = before }) (message_of name e.event) ≡ Replies e.event e.reply
  unfolding rule_of
  entry_right t name set before e es there is holds =
      let room = room_before before e es is.few is.light in
      let right = is.legal before es e refl in
      rw (there, event_back name e.event holds, room, ← right) refl

  entries_right : (t : Agreements) (name : List ℕ) (set : ℕ) (before es : List (Entry Event Reply)) → slice_get base.terms set ≡ Some t → IsSet base.params t (before ++ es) → AllByRecursion (CanTell name) es → IsLegalBy (rule_of base) name (record { set = set; entries = before }) es
  entries_right t name set before [] there is can = tt
  entries_right t name set before (e ∷ es) there is can =
      let next : IsSet base.params t ((before ++ e ∷ []) ++ es) = subst (IsSet base.params t) (sym (append_assoc before (e ∷ []) es)) is in
      (entry_right t name set before e es there is can.0.event, entries_right t name set (before ++ e ∷ []) es there next can.1)

  there_behind : (done : List Agreements) (t : Agreements) (ts : List Agreements) → slice_get (done ++ t ∷ ts) (length done) ≡ Some t
  there_behind done t ts = slice_get-get_or (done ++ t ∷ ts) (length done) t (omega (arith, length-append done (t ∷ ts))) ∙ ap (λ x. Some x) (get_or-append_seam done t ts t)

  journals_from : (done ts : List Agreements) (js : List Journal) → base.terms ≡ done ++ ts → AllZip (IsJournal base.params) ts js → AllByRecursion CanAudit js → AreLegalBy (rule_of base) (length done) js
  journals_from done [] [] all are can = tt
  journals_from done [] (j ∷ js) all are can = absurd are
  journals_from done (t ∷ ts) [] all are can = absurd are
  journals_from done (t ∷ ts) (j ∷ js) all are can =
      let there : slice_get base.terms (length done) ≡ Some t = rw all (there_behind done t ts) in
      let regrouped : base.terms ≡ (done ++ t ∷ []) ++ ts = all ∙ sym (append_assoc done (t ∷ []) ts) in
      let count : length (done ++ t ∷ []) ≡ length done + 1 = length-append done (t ∷ []) in (
        entries_right t j.name (length done) [] j.entries there are.0.set can.0.entries,
        subst (λ k. AreLegalBy (rule_of base) k js) count (journals_from (done ++ t ∷ []) ts js regrouped are.1 can.1),
      )

  pub journals_right : (js : List Journal) → AreJournals base js → AllByRecursion CanAudit js → AreLegalBy (rule_of base) 0 js
  journals_right js are can = journals_from [] base.terms js refl are can
