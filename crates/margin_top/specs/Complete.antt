-- When a command has to succeed.
use Rattle.std.specs.Prelude.{ℕ, List, Option, Some, None}
use Rattle.mh_io.specs.Sink.{SinkSeen}
use Rattle.mh_io.specs.Folder.{FolderSeen}
use Rattle.margin_calc.specs.Complete.{IsWell}
use Rattle.margin_run.specs.Desks.{Desks}
use Rattle.margin_run.specs.Complete.{IsWellRun}
use Rattle.margin_schedule.specs.Complete.{IsWellSchedule}
use Rattle.margin_whatif.specs.Complete.{IsWellWhatIf}
use Rattle.margin_sample.specs.Sample.{IsWellSample}
use Rattle.margin_verify.specs.Complete.{IsWellVerify}
use Rattle.margin_pool.specs.Complete.{IsWellPool}
use Rattle.margin_top.specs.Words.{Form, Calc, Explain, Schedule, WhatIf, Sample, Run, Audit, Verify, Pool, form_of}

-- the words are a command, and all is well for it
abbrev pub IsWellForm : {B : Type 0} → Option Form → FolderSeen → FolderSeen → SinkSeen → SinkSeen → Desks B → Type 0
IsWellForm None old new out_old out_new d = ⊥
IsWellForm (Some (Calc params crif)) old new out_old out_new d = IsWell params crif old new out_old out_new
IsWellForm (Some (Explain params crif)) old new out_old out_new d = IsWell params crif old new out_old out_new
IsWellForm (Some (Schedule day crif)) old new out_old out_new d = IsWellSchedule crif old new out_old out_new
IsWellForm (Some (WhatIf params crif candidate names)) old new out_old out_new d = IsWellWhatIf params crif candidate names old new out_old out_new
IsWellForm (Some (Sample feeds seed)) old new out_old out_new d = IsWellSample out_old out_new
IsWellForm (Some (Run params terms feeds)) old new out_old out_new d = IsWellRun params terms feeds old new out_old out_new d
IsWellForm (Some (Audit params terms feeds)) old new out_old out_new d = IsWellRun params terms feeds old new out_old out_new d
IsWellForm (Some (Verify params terms audit)) old new out_old out_new d = IsWellVerify params terms audit old new out_old out_new
IsWellForm (Some (Pool terms total feeds)) old new out_old out_new d = IsWellPool terms feeds old new out_old out_new

abbrev pub IsWellHouse : {B : Type 0} → List (List ℕ) → FolderSeen → FolderSeen → SinkSeen → SinkSeen → Desks B → Type 0
IsWellHouse words old new out_old out_new d = IsWellForm (form_of words) old new out_old out_new d
