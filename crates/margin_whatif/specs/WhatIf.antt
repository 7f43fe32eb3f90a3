-- What a what-if does: for each status what happened, and what was printed.
use Rattle.std.specs.Prelude.{ℕ, ◌≡◌, ◌≢◌, List, map, ◌++◌, None, Some, ◌⊎◌, Result, Ok, Err, codes}
use Rattle.mh_io.specs.Folder.{FolderSeen}
use Rattle.mh_io.specs.Sink.{SinkSeen}
use Rattle.whatif.specs.BucketCache.SimmRules.SimmKinds.declared.row.TradeRows.{TradeRows}
use Rattle.whatif.specs.BucketCache.SimmRules.SimmKinds.Batch.{rows_of}
use Rattle.whatif.specs.BucketCache.SimmRules.Params.{Params}
use Rattle.whatif.specs.BucketCache.SimmRules.Range.{range}
use Rattle.whatif.specs.BucketCache.SimmRules.Simm.{simm}
use Rattle.whatif.specs.BucketCache.Live.{Live, first_unadmitted}
use Rattle.whatif.specs.BucketCache.Without.{total_without}
use Rattle.whatif.specs.declared.fault.WhatIfFault.{WhatIfFault}
use Rattle.whatif.specs.declared.fault.WhatIfFault.TheVariants as what
use Rattle.whatif.specs.Asked.{book_after}
use Rattle.whatif.specs.Faults.{first_fault}
use Rattle.margin_calc.specs.CommandFiles.declared.status.Status.{Status}
use Rattle.margin_calc.specs.CommandFiles.declared.fault.InputFile.TheVariants as input
use Rattle.margin_calc.specs.CommandFiles.declared.fault.FileFault.{FileFault}
use Rattle.margin_calc.specs.CommandFiles.declared.fault.Fault.{Fault}
use Rattle.margin_calc.specs.CommandFiles.declared.fault.Fault.TheVariants as fault
use Rattle.margin_calc.specs.CommandFiles.Files.{no_deeds, with_reading, Deeds, Did, IsWhole, NoValue}
use Rattle.margin_calc.specs.CommandFiles.Grammars.{RefusesParams, GivesTrades, RefusesTrades}
use Rattle.margin_calc.specs.CommandFiles.AfterParams.{HasParams, FailsAfterParams}
use Rattle.margin_calc.specs.CommandFiles.Printed.{Prints}
use Rattle.margin_calc.specs.CommandFiles.Ending.{EndsAtFault}
use Rattle.margin_calc.specs.Calc.{IsRefused, IsStarved, BatchFails}
use Rattle.margin_whatif.specs.Lines.{margins_text, without_lines}
use Rattle.margin_whatif.specs.FaultLine.{what_if_fault}

-- ---- of a book

-- the lines of both margins by the written rule, and of the totals without each trade
abbrev pub what_if_text : Params → List TradeRows → List (List ℕ) → List TradeRows → List ℕ
what_if_text p book names candidate =
    margins_text (simm p (rows_of book)) (simm p (rows_of (book_after names (Some candidate) book)))
    ++ without_lines names (map (total_without p book) names)

-- what asking comes to: the lines, or why there are none
abbrev pub AskedEnds : Params → List TradeRows → List (List ℕ) → List TradeRows → Result (List ℕ) WhatIfFault → Type 0
AskedEnds p book names candidate (Ok text) = (first_fault p names (Some candidate) book ≡ None) × (text ≡ what_if_text p book names candidate)
AskedEnds p book names candidate (Err f) = (f ≡ what.Memory) ⊎ (first_fault p names (Some candidate) book ≡ Some f)

-- the fault that a refusal comes to: its line, or want of memory
abbrev pub TellsRefusal : WhatIfFault → Fault → Type 0
TellsRefusal why (fault.OfFile file name f) = ⊥
TellsRefusal why (fault.Refused line) = (why ≢ what.Memory) × (line ≡ what_if_fault why)
TellsRefusal why fault.Memory = Unit {0}

-- the lines, or the line of the refusal; or memory ran out
abbrev pub RefusalEnds : Params → List TradeRows → List (List ℕ) → List TradeRows → Result (List ℕ) Fault → Type 0
RefusalEnds p book names candidate (Ok text) = (first_fault p names (Some candidate) book ≡ None) × (text ≡ what_if_text p book names candidate)
RefusalEnds p book names candidate (Err (fault.OfFile file name f)) = ⊥
RefusalEnds p book names candidate (Err (fault.Refused line)) = (why : WhatIfFault) × (first_fault p names (Some candidate) book ≡ Some why) × (line ≡ what_if_fault why)
RefusalEnds p book names candidate (Err fault.Memory) = Unit {0}

-- a live margin of a batch, or why there is none
abbrev pub LiveEnds : Params → List TradeRows → Result Live Fault → Type 0
LiveEnds p trades (Ok live) = (first_unadmitted p trades ≡ None) × (range p (rows_of trades) ≡ None) × (live.params ≡ p) × (live.book ≡ trades)
LiveEnds p trades (Err f) = BatchFails p trades f

-- ---- of three files

-- the parameters and the book were read; then the book was taken in
pub record HasBook (params_name crif_name : List ℕ) (old : FolderSeen) (param_bytes crif_bytes : List ℕ) (p : Params) (trades : List TradeRows) : Type 0 where
  pub params : HasParams old params_name param_bytes p
  pub whole : IsWhole old crif_name crif_bytes
  pub values : GivesTrades crif_bytes trades
  pub admitted : first_unadmitted p trades ≡ None
  pub in_range : range p (rows_of trades) ≡ None

-- what was done before the candidate is read
abbrev pub both_read : List ℕ → List ℕ → ℕ → List ℕ → List ℕ → ℕ → Deeds
both_read params_name param_bytes param_faults crif_name crif_bytes crif_faults =
    with_reading (with_reading no_deeds params_name param_bytes param_faults) crif_name crif_bytes crif_faults

-- all three files were read whole, and have these values by their grammars
pub record HasAll (params_name crif_name candidate_name : List ℕ) (old new : FolderSeen) (p : Params) (trades candidate : List TradeRows) : Type 0 where
  pub param_bytes : List ℕ
  pub param_faults : ℕ
  pub crif_bytes : List ℕ
  pub crif_faults : ℕ
  pub candidate_bytes : List ℕ
  pub candidate_faults : ℕ
  pub did : Did old new (with_reading (both_read params_name param_bytes param_faults crif_name crif_bytes crif_faults) candidate_name candidate_bytes candidate_faults)
  pub book : HasBook params_name crif_name old param_bytes crif_bytes p trades
  pub whole : IsWhole old candidate_name candidate_bytes
  pub values : GivesTrades candidate_bytes candidate

-- the text is that of the written rule, over what the three files have
pub record HasWhatIf (params_name crif_name candidate_name : List ℕ) (names : List (List ℕ)) (old new : FolderSeen) (text : List ℕ) : Type 0 where
  pub p : Params
  pub trades : List TradeRows
  pub candidate : List TradeRows
  pub all : HasAll params_name crif_name candidate_name old new p trades candidate
  pub none : first_fault p names (Some candidate) trades ≡ None
  pub is : text ≡ what_if_text p trades names candidate

-- the what-if is refused, and the line tells the first fault
pub record IsRefusedAfter (params_name crif_name candidate_name : List ℕ) (names : List (List ℕ)) (old new : FolderSeen) (line : List ℕ) : Type 0 where
  pub p : Params
  pub trades : List TradeRows
  pub candidate : List TradeRows
  pub all : HasAll params_name crif_name candidate_name old new p trades candidate
  pub why : WhatIfFault
  pub refused : first_fault p names (Some candidate) trades ≡ Some why
  pub tells : line ≡ what_if_fault why

-- memory ran out after all files were read
pub record IsStarvedAfter (params_name crif_name candidate_name : List ℕ) (old new : FolderSeen) : Type 0 where
  pub p : Params
  pub trades : List TradeRows
  pub candidate : List TradeRows
  pub all : HasAll params_name crif_name candidate_name old new p trades candidate

-- the book was taken in, and then the candidate's file gave no value
pub record FailsAfterBook (params_name crif_name candidate_name : List ℕ) (old new : FolderSeen) (f : FileFault) : Type 0 where
  pub param_bytes : List ℕ
  pub param_faults : ℕ
  pub crif_bytes : List ℕ
  pub crif_faults : ℕ
  pub p : Params
  pub trades : List TradeRows
  pub book : HasBook params_name crif_name old param_bytes crif_bytes p trades
  pub failed : NoValue old new (both_read params_name param_bytes param_faults crif_name crif_bytes crif_faults) candidate_name (RefusesTrades (codes "CANDIDATE")) f

-- what happened at each fault of a what-if, which has no other file
abbrev pub WhatIfCause : List ℕ → List ℕ → List ℕ → List (List ℕ) → FolderSeen → FolderSeen → Fault → Type 0
WhatIfCause params_name crif_name candidate_name names old new (fault.OfFile input.Params name f) =
    (name.now ≡ params_name) × NoValue old new no_deeds params_name RefusesParams f
WhatIfCause params_name crif_name candidate_name names old new (fault.OfFile input.Crif name f) =
    (name.now ≡ crif_name) × FailsAfterParams params_name crif_name (RefusesTrades (codes "CRIF")) old new f
WhatIfCause params_name crif_name candidate_name names old new (fault.OfFile input.Candidate name f) =
    (name.now ≡ candidate_name) × FailsAfterBook params_name crif_name candidate_name old new f
WhatIfCause params_name crif_name candidate_name names old new (fault.OfFile _ name f) = ⊥
WhatIfCause params_name crif_name candidate_name names old new (fault.Refused line) =
    IsRefused params_name crif_name old new line ⊎ IsRefusedAfter params_name crif_name candidate_name names old new line
WhatIfCause params_name crif_name candidate_name names old new fault.Memory =
    IsStarved params_name crif_name old new ⊎ IsStarvedAfter params_name crif_name candidate_name old new

-- what working out the lines does: the lines, or why there are none
abbrev pub TextEnds : List ℕ → List ℕ → List ℕ → List (List ℕ) → FolderSeen → FolderSeen → Result (List ℕ) Fault → Type 0
TextEnds params_name crif_name candidate_name names old new (Ok text) = HasWhatIf params_name crif_name candidate_name names old new text
TextEnds params_name crif_name candidate_name names old new (Err f) = WhatIfCause params_name crif_name candidate_name names old new f

-- the lines were worked out, and printed as the status says
pub record EndsWithLines (params_name crif_name candidate_name : List ℕ) (names : List (List ℕ)) (old new : FolderSeen) (out_old out_new : SinkSeen) (s : Status) : Type 0 where
  pub text : List ℕ
  pub has : HasWhatIf params_name crif_name candidate_name names old new text
  pub printed : Prints text out_old out_new s

-- what a what-if with this status did
abbrev pub WhatIfEnds : List ℕ → List ℕ → List ℕ → List (List ℕ) → FolderSeen → FolderSeen → SinkSeen → SinkSeen → Status → Type 0
WhatIfEnds params_name crif_name candidate_name names old new out_old out_new s =
    EndsWithLines params_name crif_name candidate_name names old new out_old out_new s
    ⊎ EndsAtFault (WhatIfCause params_name crif_name candidate_name names old new) out_old out_new s
