-- What a verification does, for each status.
use Rattle.std.specs.Prelude.{ℕ, ◌≡◌, ◌+◌, ◌≤◌, List, map, length, ◌++◌, Bool, Some, IfSome, Result, Ok, Err, ◌⊎◌}
use Rattle.mh_io.specs.Sink.{SinkSeen}
use Rattle.mh_io.specs.Folder.{FolderSeen, file_of}
use Rattle.mh_io.specs.Faults.{Rises}
use Rattle.mh_io.specs.Limits.{most_bytes}
use Rattle.mh_io.specs.Lined.{CanCome, is_ended}
use Rattle.mh_io.specs.declared.lines_answer.Supply.{Supply}
use Rattle.mh_io.specs.declared.lines_answer.Supply.TheVariants as supply_of
use Rattle.params_file.specs.SimmRules.Params.{Params}
use Rattle.csa_terms.specs.Terms.{Agreements}
use Rattle.audit_file.specs.declared.answer.Verdict.{Verdict}
use Rattle.audit_file.specs.declared.answer.Verdict.TheVariants.{Yes, No}
use Rattle.audit_file.specs.declared.answer.AuditFault.{AuditFault}
use Rattle.audit_file.specs.declared.answer.AuditFault.TheVariants as audit
use Rattle.audit_file.specs.Replays.{rule_of, TellsLegal}
use Rattle.audit_file.specs.Told.{ToldSet, told, AreAllSets}
use Rattle.audit_file.specs.Verdict.{verdict, StandsLater}
use Rattle.feed_files.specs.CommandFiles.declared.status.Status.{Status}
use Rattle.feed_files.specs.CommandFiles.declared.status.Status.TheVariants as status
use Rattle.feed_files.specs.CommandFiles.declared.fault.InputFile.TheVariants as input
use Rattle.feed_files.specs.CommandFiles.declared.fault.FileFault.{FileFault}
use Rattle.feed_files.specs.CommandFiles.declared.fault.FileFault.TheVariants as why
use Rattle.feed_files.specs.CommandFiles.declared.fault.Fault.{Fault}
use Rattle.feed_files.specs.CommandFiles.declared.fault.Fault.TheVariants as fault
use Rattle.feed_files.specs.CommandFiles.Files.{no_deeds, with_reading, Did, IsMissing, IsUnread, IsCutShort}
use Rattle.feed_files.specs.CommandFiles.Inputs.{HasInputs, InputsCause}
use Rattle.feed_files.specs.CommandFiles.Printed.{Got, GotFront, GotLine}
use Rattle.feed_files.specs.CommandFiles.Ending.{EndsAtFault}
use Rattle.margin_verify.specs.declared.judging.Judged.{Judged}
use Rattle.margin_verify.specs.FaultLines.{audit_line}
use Rattle.margin_verify.specs.VerdictLines.{yes_line, no_line, name_at}

-- what so many bytes of an audit file come to, where `ended` says that they are all: each reply is worked out anew by the written
-- rule, from scratch, over the entries before it, and the first thing in the file that decides is the answer
abbrev pub verdict_of : Params → List Agreements → List ℕ → Bool → Result Verdict AuditFault
verdict_of p agreements taken ended = verdict (rule_of (record { params = p; terms = agreements })) (map (λ t. t.collect.name) agreements) taken ended

-- the sets that they tell, each with its entries
abbrev pub told_of : List Agreements → List ℕ → Bool → List ToldSet
told_of agreements taken ended = told (map (λ t. t.collect.name) agreements) taken ended

-- What a verdict means. Yes: each set is told, in order, and what is told of it is a legal journal, in which each reply is that
-- of the written rule over the entries before it, and each reply line that of its reply.
abbrev pub Means : Params → List Agreements → List ℕ → Bool → Verdict → Type 0
Means p agreements taken ended (Yes sets entries) =
    AreAllSets (length agreements) 0 (told_of agreements taken ended)
    × TellsLegal (record { params = p; terms = agreements }) (told_of agreements taken ended)
Means p agreements taken ended (No set entry) = Unit {0}

-- The audit file of this name was found, so much of it was taken, at most 33,554,433 bytes, and it was handed back. This is what
-- the bytes that were taken come to; whatever might still have come, a verdict, a line out of the format and a full journal stand.
pub record IsJudged (p : Params) (agreements : List Agreements) (old new : FolderSeen) (name : List ℕ) (answer : Result Verdict AuditFault) : Type 0 where
  pub taken : List ℕ
  pub supply : Supply
  pub faults : ℕ
  pub did : Did old new (with_reading no_deeds name taken faults)
  pub few : length taken ≤ most_bytes + 1
  pub front : IfSome old.told (λ t. (rest : List ℕ) × (file_of t.files name ≡ Some (taken ++ rest)))
  pub all : supply ≡ supply_of.Ended → IfSome old.told (λ t. file_of t.files name ≡ Some taken)
  pub failed : supply ≡ supply_of.Failed → Rises old.read_faults new.read_faults
  pub told : verdict_of p agreements taken (is_ended supply) ≡ answer
  pub stands : StandsLater answer → (later : List ℕ) (ended : Bool) → CanCome supply later ended → verdict_of p agreements (taken ++ later) ended ≡ answer

-- and it was read to its end, where every reply is right
abbrev pub IsWhole : Verdict → Supply → Type 0
IsWhole (Yes sets entries) s = s ≡ supply_of.Ended
IsWhole (No set entry) s = Unit {0}

pub record HasVerdict (p : Params) (agreements : List Agreements) (old new : FolderSeen) (name : List ℕ) (v : Verdict) : Type 0 where
  pub judged : IsJudged p agreements old new name (Ok v)
  pub whole : IsWhole v judged.supply
  pub means : Means p agreements judged.taken (is_ended judged.supply) v

-- a fault of the file itself
abbrev pub IsRefused : AuditFault → Type 0
IsRefused audit.ReadFault = ⊥
IsRefused audit.Memory = ⊥
IsRefused _ = Unit {0}

-- what an audit file without a verdict is to a command
abbrev pub FaultGives : AuditFault → FileFault → Type 0
FaultGives f (why.Refused line) = IsRefused f × (line ≡ audit_line f)
FaultGives f why.Unread = f ≡ audit.ReadFault
FaultGives f why.Memory = Unit {0}
FaultGives f _ = ⊥

-- the file was found and has no verdict, for a fault of its own, which the line tells
pub record IsRefusedFile (p : Params) (agreements : List Agreements) (old new : FolderSeen) (name line : List ℕ) : Type 0 where
  pub f : AuditFault
  pub judged : IsJudged p agreements old new name (Err f)
  pub refused : IsRefused f
  pub tells : line ≡ audit_line f

-- why an audit file gives no verdict
abbrev pub NoVerdict : Params → List Agreements → FolderSeen → FolderSeen → List ℕ → FileFault → Type 0
NoVerdict p agreements old new name why.Missing = IsMissing old new no_deeds name
NoVerdict p agreements old new name why.Unread = IsUnread old new no_deeds name
NoVerdict p agreements old new name why.Long = ⊥
NoVerdict p agreements old new name (why.Refused line) = IsRefusedFile p agreements old new name line
NoVerdict p agreements old new name why.Memory = IsCutShort old new no_deeds name

-- what judging an audit file does
abbrev pub VerdictEnds : Params → List Agreements → FolderSeen → FolderSeen → List ℕ → Result Verdict FileFault → Type 0
VerdictEnds p agreements old new name (Ok v) = HasVerdict p agreements old new name v
VerdictEnds p agreements old new name (Err f) = NoVerdict p agreements old new name f

-- ---- all files

-- parameters and terms were read, and then the audit file has this verdict by them
pub record IsVerified (params_name terms_name audit_name : List ℕ) (old new : FolderSeen) (agreements : List Agreements) (v : Verdict) : Type 0 where
  pub p : Params
  pub mid : FolderSeen
  pub inputs : HasInputs params_name terms_name old mid p agreements
  pub has : HasVerdict p agreements mid new audit_name v

-- and then it has none
pub record IsUnverified (params_name terms_name audit_name : List ℕ) (old new : FolderSeen) (f : FileFault) : Type 0 where
  pub p : Params
  pub agreements : List Agreements
  pub mid : FolderSeen
  pub inputs : HasInputs params_name terms_name old mid p agreements
  pub none : NoVerdict p agreements mid new audit_name f

-- what happened at each fault
abbrev pub VerifyCause : List ℕ → List ℕ → List ℕ → FolderSeen → FolderSeen → Fault → Type 0
VerifyCause params_name terms_name audit_name old new (fault.OfFile input.Audit name f) =
    (name.now ≡ audit_name) × IsUnverified params_name terms_name audit_name old new f
VerifyCause params_name terms_name audit_name old new f = InputsCause params_name terms_name old new f

-- what the files come to: a verdict, or why there is none
abbrev pub JudgedEnds : List ℕ → List ℕ → List ℕ → FolderSeen → FolderSeen → Result Judged Fault → Type 0
JudgedEnds params_name terms_name audit_name old new (Ok judged) = IsVerified params_name terms_name audit_name old new judged.terms judged.verdict
JudgedEnds params_name terms_name audit_name old new (Err f) = VerifyCause params_name terms_name audit_name old new f

-- What printing a verdict does, by its status. Wrong comes just where it is No; then the line is out, or a front of it where the
-- sink failed.
abbrev pub VerdictPrints : List Agreements → Verdict → SinkSeen → SinkSeen → Status → Type 0
VerdictPrints agreements (Yes sets entries) old new status.Done = Got old new (yes_line sets entries)
VerdictPrints agreements (Yes sets entries) old new status.Write = GotFront old new (yes_line sets entries)
VerdictPrints agreements (Yes sets entries) old new status.Memory = new.holds ≡ old.holds
VerdictPrints agreements (No set entry) old new status.Wrong = GotLine old new (no_line (name_at agreements set) entry)
VerdictPrints agreements (No set entry) old new status.Memory = new.holds ≡ old.holds
VerdictPrints agreements v old new _ = ⊥

-- the file has a verdict, which was printed as the status says
pub record EndsWithVerdict (params_name terms_name audit_name : List ℕ) (old new : FolderSeen) (out_old out_new : SinkSeen) (s : Status) : Type 0 where
  pub agreements : List Agreements
  pub v : Verdict
  pub verified : IsVerified params_name terms_name audit_name old new agreements v
  pub printed : VerdictPrints agreements v out_old out_new s

-- what a verification with this status did
abbrev pub VerifyEnds : List ℕ → List ℕ → List ℕ → FolderSeen → FolderSeen → SinkSeen → SinkSeen → Status → Type 0
VerifyEnds params_name terms_name audit_name old new out_old out_new s =
    EndsWithVerdict params_name terms_name audit_name old new out_old out_new s
    ⊎ EndsAtFault (VerifyCause params_name terms_name audit_name old new) out_old out_new s
