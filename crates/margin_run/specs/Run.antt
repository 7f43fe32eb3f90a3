-- What a run does: for each status what happened, what was printed, and which desks were told.
use Rattle.std.specs.Prelude.{ℕ, ◌≡◌, List, map, ◌⊎◌}
use Rattle.mh_io.specs.Sink.{SinkSeen}
use Rattle.mh_io.specs.Folder.{FolderSeen}
use Rattle.feed_gate.specs.SetCore.SimmRules.Params.{Params}
use Rattle.csa_terms.specs.Terms.{Agreements}
use Rattle.feed_gate.specs.SetCore.Set.{Set, start}
use Rattle.feed_runs.specs.declared.feed_end.FeedEnd.{FeedEnd}
use Rattle.feed_runs.specs.declared.feed_end.FeedEnd.TheVariants as end_at
use Rattle.feed_gate.specs.declared.report.FeedReport.{FeedReport}
use Rattle.feed_files.specs.CommandFiles.declared.status.Status.{Status}
use Rattle.feed_files.specs.CommandFiles.declared.status.Status.TheVariants as status
use Rattle.feed_files.specs.CommandFiles.declared.fault.InputFile.TheVariants as input
use Rattle.feed_files.specs.CommandFiles.declared.fault.Fault.{Fault}
use Rattle.feed_files.specs.CommandFiles.declared.fault.Fault.TheVariants as fault
use Rattle.feed_files.specs.CommandFiles.Files.{no_deeds, NoValue}
use Rattle.feed_files.specs.Ends.{status_of_end, first_end}
use Rattle.feed_files.specs.Unrun.{FeedsFail}
use Rattle.margin_run.specs.declared.account.Account.{Account}
use Rattle.margin_run.specs.Accounts.{account_text}
use Rattle.margin_run.specs.Audits.{CanBeVerified}
use Rattle.margin_run.specs.Fed.{AreFed}
use Rattle.feed_files.specs.CommandFiles.Grammars.{RefusesParams, RefusesTerms}
use Rattle.margin_run.specs.Notices.{notices}
use Rattle.margin_run.specs.Desks.{Desks, AreUntold, AreTold, AllAreTold, OneFailed, OneWanted}
use Rattle.feed_files.specs.CommandFiles.Printed.{Got, GotFront, GotLine}
use Rattle.feed_files.specs.CommandFiles.Ending.{EndsAtFault}
use Rattle.feed_files.specs.CommandFiles.AfterParams.{FailsAfterParams}
use Rattle.feed_files.specs.CommandFiles.Inputs.{HasInputs}

-- Both files were read, and the feeds were run on the sets of the terms.
pub record HasRun (params_name terms_name : List ℕ) (feed_names : List (List ℕ)) (old new : FolderSeen) (sets : List Set) (reports : List FeedReport) : Type 0 where
  pub p : Params
  pub agreements : List Agreements
  pub mid : FolderSeen
  pub inputs : HasInputs params_name terms_name old mid p agreements
  pub fed : AreFed feed_names mid new (map (start p) agreements) sets reports

-- how the first feed ended that didn't end whole, or that all did
abbrev pub end_of : List FeedReport → FeedEnd
end_of reports = first_end (map (λ r. r.end) reports)

-- ---- runs that didn't reach the feeds

-- both files were read, and then no feed was run
pub record RunFails (params_name terms_name : List ℕ) (feed_names : List (List ℕ)) (old new : FolderSeen) (f : Fault) : Type 0 where
  pub p : Params
  pub agreements : List Agreements
  pub mid : FolderSeen
  pub inputs : HasInputs params_name terms_name old mid p agreements
  pub fails : FeedsFail feed_names mid new f

-- what happened at each fault of a run, which has no other file and no batch
abbrev pub RunCause : List ℕ → List ℕ → List (List ℕ) → FolderSeen → FolderSeen → Fault → Type 0
RunCause params_name terms_name feed_names old new (fault.OfFile input.Params name f) =
    (name.now ≡ params_name) × NoValue old new no_deeds params_name RefusesParams f
RunCause params_name terms_name feed_names old new (fault.OfFile input.Terms name f) =
    (name.now ≡ terms_name) × FailsAfterParams params_name terms_name RefusesTerms old new f
RunCause params_name terms_name feed_names old new (fault.OfFile input.Feed name f) = RunFails params_name terms_name feed_names old new (fault.OfFile input.Feed name f)
RunCause params_name terms_name feed_names old new (fault.OfFile _ name f) = ⊥
RunCause params_name terms_name feed_names old new (fault.Refused line) = ⊥
RunCause params_name terms_name feed_names old new fault.Memory = RunFails params_name terms_name feed_names old new fault.Memory

-- ---- the ends of a run, by its status

-- Want of memory at the end: for the text, of which then nothing is printed, or for the notices. No desk was told.
pub record IsStarvedAtEnd {B : Type 0} (account : Account) (sets : List Set) (reports : List FeedReport) (old new : SinkSeen) (d : Desks B) : Type 0 where
  pub printed : (new.holds ≡ old.holds) ⊎ GotLine old new (account_text account sets reports)
  pub untold : AreUntold d

-- the first feed that didn't end whole is one for which memory ran out: all is printed that the sink takes, and the desks are told
pub record IsFedShort {B : Type 0} (account : Account) (sets : List Set) (reports : List FeedReport) (old new : SinkSeen) (d : Desks B) : Type 0 where
  pub short : status_of_end (end_of reports) ≡ status.Memory
  pub printed : GotLine old new (account_text account sets reports)
  pub told : AreTold (notices sets) d

-- all is well but for a desk that found no memory
pub record IsToldShort {B : Type 0} (account : Account) (sets : List Set) (reports : List FeedReport) (old new : SinkSeen) (d : Desks B) : Type 0 where
  pub whole : end_of reports ≡ end_at.End
  pub printed : Got old new (account_text account sets reports)
  pub told : OneWanted (notices sets) d

-- What printing a run and telling the desks its calls do, by the run's status. That is want of memory where there was none
-- for the text or the notices; else that of the first feed that didn't end whole; else Write where the sink failed; else Desk
-- where a desk failed; else want of memory where a desk found none. But for the first of these each desk was told.
abbrev pub RunLeaves : {B : Type 0} → Account → List Set → List FeedReport → SinkSeen → SinkSeen → Desks B → Status → Type 0
RunLeaves account sets reports old new d status.Done = (end_of reports ≡ end_at.End) × Got old new (account_text account sets reports) × AllAreTold (notices sets) d
RunLeaves account sets reports old new d status.Write = (end_of reports ≡ end_at.End) × GotFront old new (account_text account sets reports) × AreTold (notices sets) d
RunLeaves account sets reports old new d status.Feed = (status_of_end (end_of reports) ≡ status.Feed) × GotLine old new (account_text account sets reports) × AreTold (notices sets) d
RunLeaves account sets reports old new d status.Read = (end_of reports ≡ end_at.ReadFault) × GotLine old new (account_text account sets reports) × AreTold (notices sets) d
RunLeaves account sets reports old new d status.Desk = (end_of reports ≡ end_at.End) × Got old new (account_text account sets reports) × OneFailed (notices sets) d
RunLeaves account sets reports old new d status.Memory = IsStarvedAtEnd account sets reports old new d ⊎ (IsFedShort account sets reports old new d ⊎ IsToldShort account sets reports old new d)
RunLeaves account sets reports old new d _ = ⊥

-- the run reached its feeds
pub record EndsRun {B : Type 0} (account : Account) (params_name terms_name : List ℕ) (feed_names : List (List ℕ)) (old new : FolderSeen) (out_old out_new : SinkSeen) (d : Desks B) (s : Status) : Type 0 where
  pub sets : List Set
  pub reports : List FeedReport
  pub run : HasRun params_name terms_name feed_names old new sets reports
  pub audit : CanBeVerified run.p run.agreements sets
  pub leaves : RunLeaves account sets reports out_old out_new d s

-- what a run with this status did; where it ended before its feeds no desk was told
abbrev pub RunEnds : {B : Type 0} → Account → List ℕ → List ℕ → List (List ℕ) → FolderSeen → FolderSeen → SinkSeen → SinkSeen → Desks B → Status → Type 0
RunEnds account params_name terms_name feed_names old new out_old out_new d s =
    EndsRun account params_name terms_name feed_names old new out_old out_new d s
    ⊎ (EndsAtFault (RunCause params_name terms_name feed_names old new) out_old out_new s × AreUntold d)
