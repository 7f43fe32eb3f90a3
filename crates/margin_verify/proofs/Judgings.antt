-- An audit file that was found, read as far as it tells, and handed back.
use Rattle.std.proofs.Common.{◌≡◌, ℕ, arith, Bool, List, [], map, length, Result, Ok, Err, IsErrAnd, refl, sym, ap, ◌∙◌, subst, inl, inr}
use Rattle.std.proofs.lemmas.List.{length-map}
use Rattle.std.specs.Io.KnownBytes.{IsAtEnd}
use Rattle.mh_io.specs.Faults.{Rises, added_faults}
use Rattle.mh_io.specs.Source.{SourceSeen, Takes}
use Rattle.mh_io.specs.Folder.{FolderSeen, Finds, TakesBack, told_after_find}
use Rattle.mh_io.specs.Lined.{Lined, Took, is_ended}
use Rattle.mh_io.specs.declared.lines_answer.Supply.TheVariants as supply_of
use Rattle.mh_io.specs.declared.folder.FindRefused.{FindRefused}
use Rattle.mh_io.specs.declared.folder.FindRefused.TheVariants as find
use Rattle.mh_io.proofs.TakesLemmas.{nothing_taken}
use Rattle.params_file.specs.SimmRules.Params.{Params}
use Rattle.csa_terms.specs.Terms.{Agreements}
use Rattle.audit_file.specs.declared.answer.Verdict.{Verdict}
use Rattle.audit_file.specs.declared.answer.Verdict.TheVariants.{Yes, No}
use Rattle.audit_file.specs.declared.answer.AuditFault.{AuditFault}
use Rattle.audit_file.specs.declared.answer.AuditFault.TheVariants as audit
use Rattle.audit_file.specs.Rules.{Base}
use Rattle.audit_file.specs.Replays.{rule_of, TellsLegal}
use Rattle.audit_file.specs.Told.{told, AreAllSets}
use Rattle.audit_file.specs.Verdict.{verdict, Answers, Settles}
use Rattle.feed_files.specs.CommandFiles.declared.fault.FileFault.{FileFault}
use Rattle.feed_files.specs.CommandFiles.declared.fault.FileFault.TheVariants as why
use Rattle.feed_files.specs.CommandFiles.declared.fault.InputFile.TheVariants as input
use Rattle.feed_files.specs.CommandFiles.declared.fault.Fault.{Fault}
use Rattle.feed_files.specs.CommandFiles.declared.fault.Fault.TheVariants as fault
use Rattle.feed_files.specs.CommandFiles.Faults.{fault_of_find}
use Rattle.feed_files.specs.CommandFiles.Inputs.{HasInputs, InputsCause}
use Rattle.feed_files.specs.CommandFiles.Files.{no_deeds, with_reading, Did, KeepsCounts}
use Rattle.feed_files.proofs.CommandFiles.FileLemmas.{told_read, whole_file, file_front, rose_from_none, rises_by, did_nothing, did_ask}
use Rattle.margin_verify.specs.declared.judging.Judged.{Judged}
use Rattle.margin_verify.specs.Verify.{verdict_of, told_of, Means, IsJudged, HasVerdict, IsRefused, FaultGives, NoVerdict, VerdictEnds, IsVerified, IsUnverified, VerifyCause, JudgedEnds}

-- ---- a file that wasn't found

pub not_found : (S : Type 0) (p : Params) (agreements : List Agreements) (old new : FolderSeen) (name : List ℕ) (r : FindRefused) (result : Result Verdict FileFault) → IsErrAnd result (λ e. e ≡ fault_of_find r) → new.told ≡ told_after_find {S = S} (Err r) name old.told → (r ≡ find.Failed → Rises old.find_faults new.find_faults) → VerdictEnds p agreements old new name result
not_found S p agreements old new name r (Ok v) h told rose = absurd h
not_found S p agreements old new name find.Failed (Err e) h told rose =
    subst (NoVerdict p agreements old new name) (sym h) (record { did = told ∙ did_ask old.told name; rose = rose refl })
not_found S p agreements old new name find.Memory (Err e) h told rose =
    subst (NoVerdict p agreements old new name) (sym h) (inl (told ∙ did_nothing old.told))

-- ---- what a verdict means, where Yes means that each set is told and legal

module _ (legal : (base : Base) (names : List (List ℕ)) (taken : List ℕ) (ended : Bool) (sets entries : ℕ) → verdict (rule_of base) names taken ended ≡ Ok (Yes sets entries) → TellsLegal base (told names taken ended))
    (all : (base : Base) (names : List (List ℕ)) (taken : List ℕ) (ended : Bool) (sets entries : ℕ) → verdict (rule_of base) names taken ended ≡ Ok (Yes sets entries) → AreAllSets (length names) 0 (told names taken ended))
    (p : Params) (agreements : List Agreements) (taken : List ℕ) (ended : Bool) where
  pub verdict_means : (v : Verdict) → verdict_of p agreements taken ended ≡ Ok v → Means p agreements taken ended v
  verdict_means (Yes sets entries) is =
      let base : Base = record { params = p; terms = agreements } in
      let names = map (λ (t : Agreements). t.collect.name) agreements in (
        subst (λ n. AreAllSets n 0 (told_of agreements taken ended)) (length-map agreements (λ (t : Agreements). t.collect.name)) (all base names taken ended sets entries is),
        legal base names taken ended sets entries is,
      )
  verdict_means (No set entry) is = tt

-- ---- a file that was found

-- lines of which nothing was taken
abbrev pub fresh_lines : {S : Type 0} → S → Lined S
fresh_lines source = record { source = source; pending = []; passed = 0; given = 0; supply = supply_of.Open }

module _ {S : Type 0} (seen : S → SourceSeen) (p : Params) (agreements : List Agreements) (old mid new : FolderSeen) (name : List ℕ) (found back : S)
    (finds : Finds seen old mid name (Ok found)) (done : TakesBack mid new (seen back)) where
  rose_so : (first : (seen found).faults ≡ 0) → Rises (seen found).faults (seen back).faults → Rises old.read_faults new.read_faults
  rose_so first rise =
      let failed = rose_from_none (seen back).faults (seen found).faults first rise in
      rises_by old.read_faults new.read_faults (seen back).faults
      (omega (arith, done.count, finds.reads_stand)) (done.rises ∙ ap (λ n. added_faults n (seen back).faults) finds.reads_stand) failed

  -- so much of it was taken
  did_so : (taken : List ℕ) → (seen back).name ≡ (seen found).name → Takes (seen found) (seen back) taken → Did old new (with_reading no_deeds name taken (seen back).faults)
  did_so taken named takes = told_read old.told mid.told new.told name taken (seen found) (seen back) finds.told finds.found named takes done.told

  pub counts_kept : KeepsCounts old new
  counts_kept = record {
    finds = omega (arith, finds.count, done.finds_stand);
    reads = omega (arith, done.count, finds.reads_stand);
    due = omega (arith, finds.due, done.due);
  }

  -- the bytes that were taken settle it
  judged_so : (last : Lined S) → last.source ≡ back → (answer : Result Verdict AuditFault) → Settles seen (rule_of (record { params = p; terms = agreements })) (map (λ t. t.collect.name) agreements) (fresh_lines found) last answer → IsJudged p agreements old new name answer
  judged_so last same answer settles =
      let took = settles.took in
      let takes : Takes (seen found) (seen back) settles.taken = subst (λ s. Takes (seen found) (seen s) settles.taken) same took.takes in
      let named : (seen back).name ≡ (seen found).name = ap (λ s. (seen s).name) (sym same) ∙ took.named in
      record {
        taken = settles.taken;
        supply = last.supply;
        faults = (seen back).faults;
        did = did_so settles.taken named takes;
        few = let many = took.few (omega arith) in omega (arith, many, took.total);
        front = file_front old.told name settles.taken (seen found) (seen back) finds.found takes;
        all = λ e. whole_file old.told name settles.taken (seen found) (seen back) finds.found takes (subst (λ s. IsAtEnd (seen s).left) same (took.at_end refl e));
        failed = λ e. rose_so finds.clean (subst (λ s. Rises (seen found).faults (seen s).faults) same (took.failed refl e));
        told = settles.told;
        stands = settles.stands;
      }

  -- it has a verdict, with what that means
  pub has_verdict : (last : Lined S) → last.source ≡ back → (v : Verdict) → ((taken : List ℕ) (ended : Bool) → verdict_of p agreements taken ended ≡ Ok v → Means p agreements taken ended v) → Answers seen (rule_of (record { params = p; terms = agreements })) (map (λ t. t.collect.name) agreements) (fresh_lines found) last (Ok v) → HasVerdict p agreements old new name v
  unfolding judged_so
  has_verdict last same (Yes sets entries) means settles = record { judged = judged_so last same (Ok (Yes sets entries)) settles; whole = settles.ends; means = means settles.taken (is_ended last.supply) settles.told }
  has_verdict last same (No set entry) means settles = record { judged = judged_so last same (Ok (No set entry)) settles; whole = tt; means = tt }

  -- and here it has none
  pub cut_short : (last : Lined S) → last.source ≡ back → (taken : List ℕ) × Took seen (fresh_lines found) last taken → NoVerdict p agreements old new name why.Memory
  cut_short last same (taken, took) =
      let takes : Takes (seen found) (seen back) taken = subst (λ s. Takes (seen found) (seen s) taken) same took.takes in
      let named : (seen back).name ≡ (seen found).name = ap (λ s. (seen s).name) (sym same) ∙ took.named in
      inr (record { taken = taken; faults = (seen back).faults; did = did_so taken named takes })

  pub untouched : back ≡ found → NoVerdict p agreements old new name why.Memory
  untouched same =
      let takes : Takes (seen found) (seen back) [] = nothing_taken (seen found) (seen back) (ap (λ s. (seen s).gave) same) (ap (λ s. (seen s).left) same) in
      inr (record { taken = []; faults = (seen back).faults; did = did_so [] (ap (λ s. (seen s).name) same) takes })

  -- a fault of the file, or want of memory for its line
  refused_so : (last : Lined S) → last.source ≡ back → (f : AuditFault) → IsRefused f → Settles seen (rule_of (record { params = p; terms = agreements })) (map (λ t. t.collect.name) agreements) (fresh_lines found) last (Err f) → (w : FileFault) → FaultGives f w → NoVerdict p agreements old new name w
  refused_so last same f refused settles (why.Refused line) gives = record { f = f; judged = judged_so last same (Err f) settles; refused = refused; tells = gives.1 }
  refused_so last same f refused settles why.Memory gives = cut_short last same (settles.taken, settles.took)
  refused_so last same f refused settles why.Unread gives = absurd (subst IsRefused gives refused)
  refused_so last same f refused settles _ gives = absurd gives

  unread_so : (last : Lined S) → last.source ≡ back → Settles seen (rule_of (record { params = p; terms = agreements })) (map (λ t. t.collect.name) agreements) (fresh_lines found) last (Err audit.ReadFault) → (w : FileFault) → FaultGives audit.ReadFault w → NoVerdict p agreements old new name w
  unfolding judged_so
  unread_so last same settles why.Unread gives =
      let judged = judged_so last same (Err audit.ReadFault) settles in
      let took = settles.took in
      let rise : Rises (seen found).faults (seen back).faults = subst (λ s. Rises (seen found).faults (seen s).faults) same (took.failed refl settles.ends) in
      record {
        taken = judged.taken;
        faults = judged.faults;
        did = judged.did;
        failed = rose_from_none (seen back).faults (seen found).faults finds.clean rise;
        rose = judged.failed settles.ends;
      }
  unread_so last same settles why.Memory gives = cut_short last same (settles.taken, settles.took)
  unread_so last same settles (why.Refused line) gives = absurd gives.0
  unread_so last same settles _ gives = absurd gives

  starved_so : (last : Lined S) → last.source ≡ back → (taken : List ℕ) × Took seen (fresh_lines found) last taken → (w : FileFault) → FaultGives audit.Memory w → NoVerdict p agreements old new name w
  starved_so last same took why.Memory gives = cut_short last same took
  starved_so last same took why.Unread gives = absurd (cc gives)
  starved_so last same took (why.Refused line) gives = absurd gives.0
  starved_so last same took _ gives = absurd gives

  pub no_verdict : (last : Lined S) → last.source ≡ back → (f : AuditFault) → Answers seen (rule_of (record { params = p; terms = agreements })) (map (λ t. t.collect.name) agreements) (fresh_lines found) last (Err f) → (w : FileFault) → FaultGives f w → NoVerdict p agreements old new name w
  no_verdict last same (audit.NotAudit line) answers w gives = refused_so last same (audit.NotAudit line) tt answers w gives
  no_verdict last same (audit.Full set entry) answers w gives = refused_so last same (audit.Full set entry) tt answers w gives
  no_verdict last same (audit.Long line) answers w gives = refused_so last same (audit.Long line) tt answers w gives
  no_verdict last same (audit.TooLong taken) answers w gives = refused_so last same (audit.TooLong taken) tt answers w gives
  no_verdict last same audit.ReadFault answers w gives = unread_so last same answers w gives
  no_verdict last same audit.Memory answers w gives = starved_so last same answers w gives

-- ---- all files

pub verified : (pn tn an : List ℕ) (old mid new : FolderSeen) (p : Params) (agreements : List Agreements) (v : Verdict) → HasInputs pn tn old mid p agreements → HasVerdict p agreements mid new an v → IsVerified pn tn an old new agreements v
verified pn tn an old mid new p agreements v inputs has = record { p = p; mid = mid; inputs = inputs; has = has }

pub unverified : (pn tn an : List ℕ) (old mid new : FolderSeen) (p : Params) (agreements : List Agreements) (f : FileFault) → HasInputs pn tn old mid p agreements → NoVerdict p agreements mid new an f → IsUnverified pn tn an old new f
unverified pn tn an old mid new p agreements f inputs none = record { p = p; agreements = agreements; mid = mid; inputs = inputs; none = none }

no_inputs : (pn tn an : List ℕ) (old new : FolderSeen) (f : Fault) → InputsCause pn tn old new f → VerifyCause pn tn an old new f
no_inputs pn tn an old new (fault.OfFile input.Params name f) cause = cause
no_inputs pn tn an old new (fault.OfFile input.Terms name f) cause = cause
no_inputs pn tn an old new _ cause = absurd cause

pub failed_inputs : (pn tn an : List ℕ) (old new : FolderSeen) (f : Fault) (result : Result Judged Fault) → IsErrAnd result (λ e. e ≡ f) → InputsCause pn tn old new f → JudgedEnds pn tn an old new result
failed_inputs pn tn an old new f (Ok judged) is cause = absurd is
failed_inputs pn tn an old new f (Err e) is cause = subst (VerifyCause pn tn an old new) (sym is) (no_inputs pn tn an old new f cause)
