-- The journals that a run leaves can be written, and their text is verified.
use Rattle.std.proofs.Common.{◌≡◌, ℕ, ◌<◌, ◌≤◌, arith, Bool, true, cond, List, [], ◌∷◌, map, flat_map, length, Ok, refl, sym, ap, ◌∙◌, subst}
use Rattle.std.specs.List.{All, AllByRecursion, AllZip}
use Rattle.std.proofs.lemmas.List.{length-map}
use Rattle.std.proofs.lemmas.List.Elements.{filter_passes, recursion_from_All}
use Rattle.std.proofs.lemmas.List.Folds.{flat_map-map}
use Rattle.mh_io.specs.Limits.{most_bytes}
use Rattle.csa_terms.specs.Terms.{Agreements}
use Rattle.feed_gate.specs.SetCore.SimmRules.Params.{Params}
use Rattle.feed_gate.specs.SetCore.HeldCell.declared.entry.Entry.{Entry}
use Rattle.feed_gate.specs.SetCore.HeldCell.Entries.{is_in, own_of}
use Rattle.feed_gate.specs.SetCore.declared.event.Event.{Event}
use Rattle.feed_gate.specs.SetCore.declared.reply.Reply.{Reply}
use Rattle.feed_gate.specs.SetCore.Set.{Set, start, IsSet}
use Rattle.feed_gate.specs.Met.{events_of}
use Rattle.feed_gate.specs.SetsRun.{IsRun}
use Rattle.feed_gate.proofs.SetCore.HeldCell.Owns.{in_range, is_in_true}
use Rattle.audit_file.specs.declared.answer.Verdict.TheVariants.{Yes}
use Rattle.audit_file.specs.Rules.{Base}
use Rattle.audit_file.specs.Replays.{rule_of, IsJournal, AreJournals}
use Rattle.audit_file.specs.Verdict.{verdict}
use Rattle.audit_file.specs.Written.{Journal, CanTell, CanAudit, text_of, file_text, names_of, all_entries}
use Rattle.margin_run.specs.Accounts.{audit_of}
use Rattle.margin_run.specs.Audits.{audited, CanBeVerified}
use Rattle.margin_run.proofs.SetNames.{IsNamed}
use Rattle.margin_run.proofs.Tellable.{IsTellable, OwnTells, SetTells}

-- ---- the entries of a journal, each of which is a call of one of its feeds

of_feeds : (feeds : ℕ) (log : List (Entry Event Reply)) → own_of 0 feeds log ≡ log → AllByRecursion (λ e. is_in 0 feeds e ≡ true) log
of_feeds feeds log same =
    recursion_from_All (λ e. is_in 0 feeds e ≡ true) log (subst (All (λ e. is_in 0 feeds e ≡ true)) same (filter_passes (is_in 0 feeds) log))

-- the calls of its feed tell the first entry
first_tells : (name : List ℕ) (e : Entry Event Reply) (log : List (Entry Event Reply)) → OwnTells e.caller name (e ∷ log) → IsTellable name e.event
first_tells name e log own =
    let rest = own_of e.caller 1 log in
    let all : AllByRecursion (IsTellable name) (e.event ∷ events_of rest) =
    subst (λ b. AllByRecursion (IsTellable name) (events_of (cond b (e ∷ rest) rest))) (is_in_true e.caller 1 e (omega arith) (omega arith)) own in
    all.0

rest_tells : (P : Event → Type 0) (is_own : Bool) (e : Entry Event Reply) (rest : List (Entry Event Reply)) → AllByRecursion P (events_of (cond is_own (e ∷ rest) rest)) → AllByRecursion P (events_of rest)
rest_tells P true e rest all = all.1
rest_tells P _ e rest all = all

entries_tell : (name : List ℕ) (feeds : ℕ) (log : List (Entry Event Reply)) → feeds ≤ 1024 → AllByRecursion (λ e. is_in 0 feeds e ≡ true) log → ((feed : ℕ) → feed < feeds → OwnTells feed name log) → AllByRecursion (CanTell name) log
entries_tell name feeds [] few all own = tt
entries_tell name feeds (e ∷ log) few all own =
    let within = in_range 0 feeds e all.0 in
    let below : e.caller < feeds = omega (arith, within) in
    let tells = first_tells name e log (own e.caller below) in (
      record { caller = omega (arith, below, few); event = tells.holds; message = tells.writes },
      entries_tell name feeds log few all.1 (λ feed lt. rest_tells (IsTellable name) (is_in feed 1 e) e (own_of feed 1 log) (own feed lt)),
    )

-- ---- the journals of a run

is_journal : (p : Params) (t : Agreements) (feeds : ℕ) (s : Set) → IsRun feeds (start p t) s → IsJournal p t (audited s)
is_journal p t feeds s run = record {
  name = ap (λ (a : Agreements). a.collect.name) run.terms;
  set = subst (λ q. IsSet q t s.journal) run.params (subst (λ a. IsSet s.params a s.journal) run.terms run.legal);
}

are_journals : (p : Params) (feeds : ℕ) (ts : List Agreements) (sets : List Set) → AllZip (IsRun feeds) (map (start p) ts) sets → AllZip (IsJournal p) ts (map audited sets)
are_journals p feeds [] [] run = tt
are_journals p feeds [] (s ∷ sets) run = absurd run
are_journals p feeds (t ∷ ts) [] run = absurd run
are_journals p feeds (t ∷ ts) (s ∷ sets) run = (is_journal p t feeds s run.0, are_journals p feeds ts sets run.1)

can_audit : (p : Params) (feeds : ℕ) (ts : List Agreements) (sets : List Set) → feeds ≤ 1024 → AllZip (IsRun feeds) (map (start p) ts) sets → AllByRecursion IsNamed ts → ((feed : ℕ) → feed < feeds → AllByRecursion (SetTells feed) sets) → AllByRecursion CanAudit (map audited sets)
can_audit p feeds ts [] few run named tell = tt
can_audit p feeds [] (s ∷ sets) few run named tell = absurd run
can_audit p feeds (t ∷ ts) (s ∷ sets) few run named tell =
    let one = run.0 in
    let legal = one.legal in (
      record {
        name = subst IsNamed (sym one.terms) named.0;
        few = legal.few;
        entries = entries_tell s.terms.collect.name feeds s.journal few (of_feeds feeds s.journal one.callers) (λ feed lt. (tell feed lt).0);
      },
      can_audit p feeds ts sets few run.1 named.1 (λ feed lt. (tell feed lt).1),
    )

-- ---- their text

names_same : (p : Params) (ts : List Agreements) (js : List Journal) → AllZip (IsJournal p) ts js → names_of js ≡ map (λ t. t.collect.name) ts
names_same p [] [] are = refl
names_same p [] (j ∷ js) are = absurd are
names_same p (t ∷ ts) [] are = absurd are
names_same p (t ∷ ts) (j ∷ js) are =
    ap (λ name. name ∷ names_of js) are.0.name ∙ ap (λ names. t.collect.name ∷ names) (names_same p ts js are.1)

text_same : (sets : List Set) → file_text (map audited sets) ≡ flat_map audit_of sets
text_same sets = flat_map-map text_of audited sets

-- where the text of legal journals is answered Yes, so is that of the sets
pub can_be_verified : (p : Params) (feeds : ℕ) (ts : List Agreements) (sets : List Set)
    → ((base : Base) (js : List Journal) → AllByRecursion CanAudit js → AreJournals base js → length (file_text js) ≤ most_bytes → verdict (rule_of base) (names_of js) (file_text js) true ≡ Ok (Yes (length js) (all_entries js)))
    → feeds ≤ 1024 → AllZip (IsRun feeds) (map (start p) ts) sets → AllByRecursion IsNamed ts → ((feed : ℕ) → feed < feeds → AllByRecursion (SetTells feed) sets) → CanBeVerified p ts sets
can_be_verified p feeds ts sets answered few run named tell =
    let base : Base = record { params = p; terms = ts } in
    let js = map audited sets in
    let journals : AreJournals base js = are_journals p feeds ts sets run in
    let written = can_audit p feeds ts sets few run named tell in
    record {
      journals = journals;
      written = written;
      yes = λ near.
          ap (λ names. verdict (rule_of base) names (flat_map audit_of sets) true) (sym (names_same p ts js journals))
          ∙ (ap (λ text. verdict (rule_of base) (names_of js) text true) (sym (text_same sets))
          ∙ (answered base js written journals (subst (λ (text : List ℕ). length text ≤ most_bytes) (sym (text_same sets)) near)
          ∙ ap (λ n. Ok (Yes n (all_entries js))) (length-map sets audited)));
    }
