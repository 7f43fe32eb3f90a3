-- What the whole program does, for each status.
use Rattle.std.specs.Prelude.{ℕ, ◌≡◌, List, Option, Some, None}
use Rattle.mh_io.specs.Sink.{SinkSeen}
use Rattle.mh_io.specs.Folder.{FolderSeen}
use Rattle.margin_calc.specs.CommandFiles.declared.status.Status.{Status}
use Rattle.margin_calc.specs.CommandFiles.declared.status.Status.TheVariants as status
use Rattle.margin_top.specs.Words.{Form, Calc, Explain, Schedule, WhatIf, Sample, Run, Audit, Verify, Pool, form_of}
use Rattle.margin_calc.specs.CommandFiles.Lines.{words_fault}
use Rattle.margin_calc.specs.CommandFiles.Printed.{GotLine}
use Rattle.margin_calc.specs.Calc.{CalcEnds}
use Rattle.margin_explain.specs.Explain.{ExplainEnds}
use Rattle.margin_schedule.specs.Schedule.{ScheduleEnds}
use Rattle.margin_whatif.specs.WhatIf.{WhatIfEnds}
use Rattle.margin_sample.specs.Sample.{SampleEnds}
use Rattle.margin_run.specs.Desks.{Desks, AreUntold}
use Rattle.margin_run.specs.declared.account.Account.TheVariants.{Journals, Audits}
use Rattle.margin_run.specs.Run.{RunEnds}
use Rattle.margin_verify.specs.Verify.{VerifyEnds}
use Rattle.margin_pool.specs.Pool.{PoolEnds}

-- the words are no form of a command: the folder and the desks stand, and one line is printed
pub record EndsAtWords {B : Type 0} (old new : FolderSeen) (out_old out_new : SinkSeen) (d : Desks B) (s : Status) : Type 0 where
  pub status : s ≡ status.Words
  pub folder : new ≡ old
  pub printed : GotLine out_old out_new words_fault
  pub untold : AreUntold d

-- a sample asks the folder for nothing, and tells no desk
pub record EndsSample {B : Type 0} (feeds seed : ℕ) (old new : FolderSeen) (out_old out_new : SinkSeen) (d : Desks B) (s : Status) : Type 0 where
  pub ends : SampleEnds feeds seed out_old out_new s
  pub folder : new ≡ old
  pub untold : AreUntold d

-- what each form of words does; a margin, a what-if, a verification and a pool tell no desk
abbrev pub FormEnds : {B : Type 0} → Option Form → FolderSeen → FolderSeen → SinkSeen → SinkSeen → Desks B → Status → Type 0
FormEnds None old new out_old out_new d s = EndsAtWords old new out_old out_new d s
FormEnds (Some (Calc params crif)) old new out_old out_new d s = CalcEnds params crif old new out_old out_new s × AreUntold d
FormEnds (Some (Explain params crif)) old new out_old out_new d s = ExplainEnds params crif old new out_old out_new s × AreUntold d
FormEnds (Some (Schedule day crif)) old new out_old out_new d s = ScheduleEnds day crif old new out_old out_new s × AreUntold d
FormEnds (Some (WhatIf params crif candidate names)) old new out_old out_new d s = WhatIfEnds params crif candidate names old new out_old out_new s × AreUntold d
FormEnds (Some (Sample feeds seed)) old new out_old out_new d s = EndsSample feeds seed old new out_old out_new d s
FormEnds (Some (Run params terms feeds)) old new out_old out_new d s = RunEnds Journals params terms feeds old new out_old out_new d s
FormEnds (Some (Audit params terms feeds)) old new out_old out_new d s = RunEnds Audits params terms feeds old new out_old out_new d s
FormEnds (Some (Verify params terms audit)) old new out_old out_new d s = VerifyEnds params terms audit old new out_old out_new s × AreUntold d
FormEnds (Some (Pool terms total feeds)) old new out_old out_new d s = PoolEnds terms total feeds old new out_old out_new s × AreUntold d

abbrev pub HouseEnds : {B : Type 0} → List (List ℕ) → FolderSeen → FolderSeen → SinkSeen → SinkSeen → Desks B → Status → Type 0
HouseEnds words old new out_old out_new d s = FormEnds (form_of words) old new out_old out_new d s
