-- A verification for which all is well succeeds, or finds no memory.
use Rattle.std.proofs.Common.{◌≡◌, ℕ, ◌≤◌, arith, Bool, true, List, [], ◌∷◌, ◌++◌, length, map, Some, option_map, Result, Ok, Err, refl, sym, ap, ◌∙◌, subst, inl, inr, length-append}
use Rattle.mh_io.specs.Faults.{Rises}
use Rattle.mh_io.specs.Sink.{SinkSeen}
use Rattle.mh_io.specs.Folder.{Telling, FolderSeen, file_of}
use Rattle.mh_io.specs.Limits.{most_bytes}
use Rattle.mh_io.specs.Lines.{Whole, Long, lines}
use Rattle.mh_io.specs.Lined.{CanCome, is_ended}
use Rattle.mh_io.specs.declared.lines_answer.Supply.{Supply}
use Rattle.mh_io.specs.declared.lines_answer.Supply.TheVariants as supply_of
use Rattle.params_file.specs.SimmRules.Params.{Params}
use Rattle.params_file.specs.Grammar.{params_of}
use Rattle.csa_terms.specs.Grammar.{terms_of}
use Rattle.csa_terms.specs.Terms.{Agreements}
use Rattle.audit_file.specs.declared.answer.Verdict.{Verdict}
use Rattle.audit_file.specs.declared.answer.Verdict.TheVariants.{Yes, No}
use Rattle.audit_file.specs.declared.answer.AuditFault.{AuditFault}
use Rattle.audit_file.specs.declared.answer.AuditFault.TheVariants as audit
use Rattle.audit_file.specs.Verdict.{start}
use Rattle.feed_files.specs.CommandFiles.declared.status.Status.{Status}
use Rattle.feed_files.specs.CommandFiles.declared.status.Status.TheVariants as status
use Rattle.feed_files.specs.CommandFiles.declared.fault.InputFile.TheVariants as input
use Rattle.feed_files.specs.CommandFiles.declared.fault.FileFault.{FileFault}
use Rattle.feed_files.specs.CommandFiles.declared.fault.FileFault.TheVariants as why
use Rattle.feed_files.specs.CommandFiles.declared.fault.Fault.{Fault}
use Rattle.feed_files.specs.CommandFiles.declared.fault.Fault.TheVariants as fault
use Rattle.feed_files.specs.CommandFiles.Files.{no_deeds, with_reading, told_after}
use Rattle.feed_files.specs.CommandFiles.Grammars.{RefusesParams, RefusesTerms}
use Rattle.feed_files.specs.CommandFiles.Ending.{status_of}
use Rattle.feed_files.specs.CommandFiles.Complete.{EndsWell}
use Rattle.feed_files.specs.CommandFiles.Inputs.{HasInputs}
use Rattle.feed_files.proofs.CommandFiles.FileLemmas.{rises_earlier}
use Rattle.feed_files.proofs.CommandFiles.KnownFiles.{same_bytes, front_bytes, only_memory_for, params_taken, terms_taken}
use Rattle.feed_files.proofs.LongLines.{over_long, line_stays_long}
use Rattle.margin_verify.specs.Verify.{verdict_of, IsJudged, IsRefused, NoVerdict, VerifyCause, VerdictPrints, VerifyEnds}
use Rattle.margin_verify.specs.Complete.{IsWellVerify}
use Rattle.margin_verify.proofs.Stops.{StopsSo, answer_stops}

-- how the lines of these bytes stop
stops_so : (p : Params) (agreements : List Agreements) (taken : List ℕ) (ended : Bool) (answer : Result Verdict AuditFault) → verdict_of p agreements taken ended ≡ answer → StopsSo answer (lines taken ended).stop
stops_so p agreements taken ended answer is =
    let names = map (λ t. t.collect.name) agreements in
    subst (λ a. StopsSo a (lines taken ended).stop) is (answer_stops (record { params = p; terms = agreements }) names (start (length names)) 1 taken ended)

none_left : (taken rest bytes : List ℕ) → taken ++ rest ≡ bytes → taken ≡ bytes → rest ≡ []
none_left taken [] bytes front all = refl
none_left taken (b ∷ bs) bytes front all = absurd (omega (arith, ap length front, ap length all, length-append taken (b ∷ bs)))

-- the rest of a file can come, where the source didn't fail
can_come : (s : Supply) (taken rest bytes : List ℕ) → taken ++ rest ≡ bytes → (s ≡ supply_of.Ended → taken ≡ bytes) → (s ≡ supply_of.Failed → ⊥) → CanCome s rest true
can_come supply_of.Open taken rest bytes front all stood = tt
can_come supply_of.Ended taken rest bytes front all stood = (none_left taken rest bytes front (all refl), refl)
can_come supply_of.Failed taken rest bytes front all stood = absurd (stood refl)

module _ (p : Params) (agreements : List Agreements) (old new : FolderSeen) (name bytes : List ℕ) (t : Telling) (sets entries : ℕ)
    (told : old.told ≡ Some t) (has : file_of t.files name ≡ Some bytes) (few : length bytes ≤ most_bytes)
    (stood : Rises old.read_faults new.read_faults → ⊥) (right : verdict_of p agreements bytes true ≡ Ok (Yes sets entries)) where
  front_so : (answer : Result Verdict AuditFault) (j : IsJudged p agreements old new name answer) → (rest : List ℕ) × (j.taken ++ rest ≡ bytes)
  front_so answer j = front_bytes old.told t name j.taken bytes told j.front has

  -- an answer that stands is that of the whole file
  stands_so : (answer : Result Verdict AuditFault) (j : IsJudged p agreements old new name answer) → ((later : List ℕ) (ended : Bool) → CanCome j.supply later ended → verdict_of p agreements (j.taken ++ later) ended ≡ answer) → answer ≡ Ok (Yes sets entries)
  stands_so answer j stands =
      let front = front_so answer j in
      let come = can_come j.supply j.taken front.0 bytes front.1 (λ e. same_bytes old.told t name j.taken bytes told (j.all e) has) (λ e. stood (j.failed e)) in
      sym (stands front.0 true come) ∙ (ap (λ xs. verdict_of p agreements xs true) front.1 ∙ right)

  -- no fault of the file
  none_refused : (f : AuditFault) → IsRefused f → IsJudged p agreements old new name (Err f) → ⊥
  none_refused (audit.NotAudit line) refused j = cc (stands_so (Err (audit.NotAudit line)) j (j.stands tt))
  none_refused (audit.Full set entry) refused j = cc (stands_so (Err (audit.Full set entry)) j (j.stands tt))
  none_refused (audit.Long line) refused j =
      let front = front_so (Err (audit.Long line)) j in
      let fits : length (j.taken ++ front.0) ≤ most_bytes = omega (arith, few, ap length front.1) in
      let long = line_stays_long j.taken front.0 (is_ended j.supply) fits (stops_so p agreements j.taken (is_ended j.supply) (Err (audit.Long line)) j.told) in
      let whole : (lines (j.taken ++ front.0) true).stop ≡ Whole = ap (λ xs. (lines xs true).stop) front.1 ∙ stops_so p agreements bytes true (Ok (Yes sets entries)) right in
      let two : Long ≡ Whole = sym long ∙ whole in
      cc two
  none_refused (audit.TooLong taken) refused j =
      let front = front_so (Err (audit.TooLong taken)) j in
      let many = over_long j.taken (is_ended j.supply) (stops_so p agreements j.taken (is_ended j.supply) (Err (audit.TooLong taken)) j.told) in
      omega (arith, few, many, ap length front.1, length-append j.taken front.0)
  none_refused audit.ReadFault refused j = refused
  none_refused audit.Memory refused j = refused

  -- nor is a reply wrong
  pub none_wrong : (set entry : ℕ) → IsJudged p agreements old new name (Ok (No set entry)) → ⊥
  none_wrong set entry j = cc (stands_so (Ok (No set entry)) j (j.stands tt))

  pub only_memory_of : (f : FileFault) → (Rises old.find_faults new.find_faults → ⊥) → NoVerdict p agreements old new name f → f ≡ why.Memory
  only_memory_of why.Missing finds h = absurd (finds h.rose)
  only_memory_of why.Unread finds h = absurd (stood h.rose)
  only_memory_of why.Long finds h = absurd h
  only_memory_of (why.Refused line) finds h = absurd (none_refused h.f h.refused h.judged)
  only_memory_of why.Memory finds h = refl

module _ {pn tn an : List ℕ} {old new : FolderSeen} {out_old out_new : SinkSeen} (w : IsWellVerify pn tn an old new out_old out_new) where
  -- what the files were when the audit file was asked for
  record IsReady (mid : FolderSeen) (p : Params) (agreements : List Agreements) : Type 0 where
    t : Telling
    told : mid.told ≡ Some t
    has : file_of t.files an ≡ Some w.audit_bytes
    finds : Rises mid.find_faults new.find_faults → ⊥
    reads : Rises mid.read_faults new.read_faults → ⊥
    right : verdict_of p agreements w.audit_bytes true ≡ Ok (Yes w.sets w.entries)

  ready : (mid : FolderSeen) (p : Params) (agreements : List Agreements) → HasInputs pn tn old mid p agreements → IsReady mid p agreements
  ready mid p agreements h =
      let deeds = with_reading (with_reading no_deeds pn h.param_bytes h.param_faults) tn h.terms_bytes h.terms_faults in
      let same_params : h.param_bytes ≡ w.param_bytes = same_bytes old.told w.t pn h.param_bytes w.param_bytes w.told ((h.params).whole).whole w.has_params in
      let same_terms : h.terms_bytes ≡ w.terms_bytes = same_bytes old.told w.t tn h.terms_bytes w.terms_bytes w.told (h.whole).whole w.has_terms in
      let params_are : Some p ≡ Some w.p = sym (h.params).values ∙ (ap params_of same_params ∙ w.params_read) in
      let terms_are : Ok agreements ≡ Ok w.agreements = sym h.terms ∙ (ap terms_of same_terms ∙ w.terms_read) in
      let ps : p ≡ w.p = cc params_are in
      let ts : agreements ≡ w.agreements = cc terms_are in
      record {
        t = told_after deeds w.t;
        told = h.did ∙ ap (option_map (told_after deeds)) w.told;
        has = w.has_audit;
        finds = λ r. w.finds_stood (rises_earlier old.find_faults mid.find_faults new.find_faults h.finds r);
        reads = λ r. w.reads_stood (rises_earlier old.read_faults mid.read_faults new.read_faults h.reads r);
        right = ap (λ x. verdict_of x agreements w.audit_bytes true) ps ∙ (ap (λ x. verdict_of w.p x w.audit_bytes true) ts ∙ w.right);
      }

  -- no fault comes but want of memory
  only_memory : (f : Fault) → VerifyCause pn tn an old new f → status_of f ≡ status.Memory
  only_memory (fault.OfFile input.Params name f) h =
      ap (λ e. status_of (fault.OfFile input.Params name e))
      (only_memory_for old new no_deeds pn w.param_bytes RefusesParams w.t f w.told w.has_params w.params_fit
      (params_taken w.param_bytes w.p w.params_read) w.finds_stood w.reads_stood h.1)
  only_memory (fault.OfFile input.Terms name f) h =
      let fails = h.1 in
      let before = with_reading no_deeds pn fails.param_bytes fails.param_faults in
      ap (λ e. status_of (fault.OfFile input.Terms name e))
      (only_memory_for old new before tn w.terms_bytes RefusesTerms w.t f w.told w.has_terms w.terms_fit
      (terms_taken w.terms_bytes w.agreements w.terms_read) w.finds_stood w.reads_stood fails.failed)
  only_memory (fault.OfFile input.Audit name f) h =
      let none = h.1 in
      let r = ready none.mid none.p none.agreements none.inputs in
      ap (λ e. status_of (fault.OfFile input.Audit name e))
      (only_memory_of none.p none.agreements none.mid new an w.audit_bytes r.t w.sets w.entries r.told r.has w.audit_fits r.reads r.right f r.finds none.none)
  only_memory (fault.OfFile _ name f) h = absurd h
  only_memory (fault.Refused line) h = absurd h
  only_memory fault.Memory h = absurd h

  -- a sink that doesn't fail gets the line
  printed_well : (agreements : List Agreements) (v : Verdict) (s : Status) → ((set entry : ℕ) → v ≡ No set entry → ⊥) → VerdictPrints agreements v out_old out_new s → EndsWell s
  printed_well agreements (Yes sets entries) status.Done right h = tt
  printed_well agreements (Yes sets entries) status.Memory right h = tt
  printed_well agreements (Yes sets entries) status.Write right h = absurd (w.puts_stood h.rose)
  printed_well agreements (Yes sets entries) _ right h = absurd h
  printed_well agreements (No set entry) s right h = absurd (right set entry refl)

  -- no other status than Done and Memory comes
  pub verifies_well : (s : Status) → VerifyEnds pn tn an old new out_old out_new s → EndsWell s
  verifies_well s (inl h) =
      let v = h.verified in
      let r = ready v.mid v.p h.agreements v.inputs in
      printed_well h.agreements h.v s
      (λ set entry is. none_wrong v.p h.agreements v.mid new an w.audit_bytes r.t w.sets w.entries r.told r.has w.audit_fits r.reads r.right set entry
      (subst (λ x. IsJudged v.p h.agreements v.mid new an (Ok x)) is (v.has).judged)) h.printed
  verifies_well s (inr h) =
      subst EndsWell (sym (only_memory h.f h.cause) ∙ h.status) tt
