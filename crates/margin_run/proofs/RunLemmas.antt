-- The stages of a run, one after the other.
use Rattle.std.proofs.Common.{◌≡◌, ℕ, ◌≤◌, arith, List, [], ◌∷◌, map, length, Result, Ok, Err, IsErrAnd, refl, sym, ap, ◌∙◌, subst}
use Rattle.std.specs.List.{AllZip}
use Rattle.std.proofs.lemmas.List.{length-map}
use Rattle.mh_io.specs.Folder.{FolderSeen}
use Rattle.feed_gate.specs.SetCore.SimmRules.Params.{Params}
use Rattle.csa_terms.specs.Terms.{Agreements}
use Rattle.feed_gate.specs.SetCore.Set.{Set, start}
use Rattle.feed_gate.specs.declared.report.FeedReport.{FeedReport}
use Rattle.feed_gate.specs.Sets.{AreApart}
use Rattle.feed_gate.specs.SetsRun.{IsRun}
use Rattle.margin_run.specs.declared.run_files.Outcome.{Outcome}
use Rattle.feed_files.specs.CommandFiles.declared.fault.InputFile.TheVariants as input
use Rattle.feed_files.specs.CommandFiles.declared.fault.Fault.{Fault}
use Rattle.feed_files.specs.CommandFiles.declared.fault.Fault.TheVariants as fault
use Rattle.feed_files.specs.Unrun.{FeedsFail}
use Rattle.margin_run.specs.Fed.{AreFed}
use Rattle.feed_files.specs.CommandFiles.Inputs.{HasInputs, InputsCause}
use Rattle.margin_run.specs.Run.{HasRun, RunCause}
use Rattle.margin_run.specs.RunStages.{RunFilesEnd}

-- ---- the sets

-- the sets of the terms have these terms
start_terms : (p : Params) (agreements : List Agreements) → map (λ s. s.terms) (map (start p) agreements) ≡ agreements
start_terms p [] = refl
start_terms p (t ∷ ts) = ap (λ us. t ∷ us) (start_terms p ts)

-- sets that were run have the terms that they had
run_terms : (n : ℕ) (old new : List Set) → AllZip (IsRun n) old new → map (λ s. s.terms) new ≡ map (λ s. s.terms) old
run_terms n [] [] all = refl
run_terms n [] (t ∷ new) all = absurd all
run_terms n (s ∷ old) [] all = absurd all
run_terms n (s ∷ old) (t ∷ new) all = ap (λ u. u ∷ map (λ (x : Set). x.terms) new) all.0.terms ∙ ap (λ us. s.terms ∷ us) (run_terms n old new all.1)

-- the feeds were run on the sets of the terms
pub has_run : (old mid new : FolderSeen) (pn tn : List ℕ) (fns : List (List ℕ)) (p : Params) (agreements : List Agreements) (started sets : List Set) (reports : List FeedReport) → HasInputs pn tn old mid p agreements → started ≡ map (start p) agreements → AreApart started → AreFed fns mid new started sets reports → HasRun pn tn fns old new sets reports × (agreements ≡ map (λ s. s.terms) sets) × (length sets ≤ 16)
has_run old mid new pn tn fns p agreements started sets reports inputs begun apart fed =
    let same = run_terms (length fns) started sets fed.sets in (
      record { p = p; agreements = agreements; mid = mid; inputs = inputs; fed = subst (λ ss. AreFed fns mid new ss sets reports) begun fed },
      sym (same ∙ ap (map (λ s. s.terms)) begun ∙ start_terms p agreements),
      omega (arith, apart.few, ap length same, length-map sets (λ (s : Set). s.terms), length-map started (λ (s : Set). s.terms)),
    )

-- no feed was run
pub no_run : (old mid new : FolderSeen) (pn tn : List ℕ) (fns : List (List ℕ)) (p : Params) (agreements : List Agreements) (f : Fault) → HasInputs pn tn old mid p agreements → FeedsFail fns mid new f → RunCause pn tn fns old new f
no_run old mid new pn tn fns p agreements (fault.OfFile input.Feed name f) inputs fails = record { p = p; agreements = agreements; mid = mid; inputs = inputs; fails = fails }
no_run old mid new pn tn fns p agreements (fault.OfFile _ name f) inputs fails = absurd fails
no_run old mid new pn tn fns p agreements (fault.Refused line) inputs fails = absurd fails
no_run old mid new pn tn fns p agreements fault.Memory inputs fails = record { p = p; agreements = agreements; mid = mid; inputs = inputs; fails = fails }

-- there was nothing to run
pub no_inputs : (old new : FolderSeen) (pn tn : List ℕ) (fns : List (List ℕ)) (f : Fault) → InputsCause pn tn old new f → RunCause pn tn fns old new f
no_inputs old new pn tn fns (fault.OfFile input.Params name f) cause = cause
no_inputs old new pn tn fns (fault.OfFile input.Terms name f) cause = cause
no_inputs old new pn tn fns _ cause = absurd cause

pub failed_run : (old new : FolderSeen) (pn tn : List ℕ) (fns : List (List ℕ)) (f : Fault) (result : Result Outcome Fault) → IsErrAnd result (λ e. e ≡ f) → RunCause pn tn fns old new f → RunFilesEnd pn tn fns old new result
failed_run old new pn tn fns f (Ok run) is cause = absurd is
failed_run old new pn tn fns f (Err e) is cause = subst (RunCause pn tn fns old new) (sym is) cause
