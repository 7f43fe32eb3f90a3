-- What a margin calculation does: for each status what happened, and what was printed.
use Rattle.std.specs.Prelude.{ℕ, ◌≡◌, List, None, Some, ◌⊎◌, Result, Ok, Err, codes}
use Rattle.mh_io.specs.Folder.{FolderSeen}
use Rattle.mh_io.specs.Sink.{SinkSeen}
use Rattle.simm_kinds.specs.declared.row.TradeRows.{TradeRows}
use Rattle.simm_kinds.specs.Batch.{rows_of}
use Rattle.simm_rules.specs.declared.values.Breakdown.{Breakdown}
use Rattle.simm_rules.specs.Params.{Params}
use Rattle.simm_rules.specs.Simm.{simm}
use Rattle.simm_rules.specs.Range.{range}
use Rattle.set_core.specs.BucketCache.declared.fault.BookFault.{BookFault}
use Rattle.set_core.specs.BucketCache.declared.fault.BookFault.TheVariants as book
use Rattle.set_core.specs.BucketCache.Live.{first_unadmitted}
use Rattle.set_core.specs.declared.refusal.Refusal.{Refusal}
use Rattle.set_core.specs.declared.reply.Reply.TheVariants as reply
use Rattle.set_core.specs.Answer.{if_admitted}
use Rattle.breakdown_text.specs.Margins.{margin_text}
use Rattle.margin_calc.specs.RefusalLine.{refusal_fault}
use Rattle.command_files.specs.declared.status.Status.{Status}
use Rattle.command_files.specs.declared.status.Status.TheVariants as status
use Rattle.command_files.specs.declared.fault.InputFile.TheVariants as input
use Rattle.command_files.specs.declared.fault.Fault.{Fault}
use Rattle.command_files.specs.declared.fault.Fault.TheVariants as fault
use Rattle.command_files.specs.Files.{no_deeds, with_reading, Did, IsWhole, NoValue}
use Rattle.command_files.specs.Grammars.{RefusesParams, GivesTrades, RefusesTrades}
use Rattle.command_files.specs.Printed.{Got, GotFront}
use Rattle.command_files.specs.Ending.{EndsAtFault}
use Rattle.command_files.specs.AfterParams.{HasParams, FailsAfterParams}
use Rattle.margin_calc.specs.declared.files.CalcInput.{CalcInput}

-- both files were read whole; the one has these parameters, the other these trades
pub record HasBoth (params_name crif_name : List ℕ) (old new : FolderSeen) (p : Params) (trades : List TradeRows) : Type 0 where
  pub param_bytes : List ℕ
  pub param_faults : ℕ
  pub crif_bytes : List ℕ
  pub crif_faults : ℕ
  pub did : Did old new (with_reading (with_reading no_deeds params_name param_bytes param_faults) crif_name crif_bytes crif_faults)
  pub params : HasParams old params_name param_bytes p
  pub whole : IsWhole old crif_name crif_bytes
  pub values : GivesTrades crif_bytes trades

-- The margin is that of the written rule, over the parameters and the book that the two files have by their grammars.
pub record HasMargin (params_name crif_name : List ℕ) (old new : FolderSeen) (b : Breakdown) : Type 0 where
  pub p : Params
  pub trades : List TradeRows
  pub both : HasBoth params_name crif_name old new p trades
  pub admitted : first_unadmitted p trades ≡ None
  pub in_range : range p (rows_of trades) ≡ None
  pub margin : b ≡ simm p (rows_of trades)

-- Both files were read, and the batch is refused as a set's first submit is: at its first row that isn't admitted, or else
-- where its book is out of range. The line tells the refusal.
pub record IsRefused (params_name crif_name : List ℕ) (old new : FolderSeen) (line : List ℕ) : Type 0 where
  pub p : Params
  pub trades : List TradeRows
  pub why : Refusal
  pub both : HasBoth params_name crif_name old new p trades
  pub refused : if_admitted (first_unadmitted p trades) (range p (rows_of trades)) ≡ reply.Refused why
  pub tells : line ≡ refusal_fault why

-- the fault that a refusal comes to: its line, or want of memory
abbrev pub TellsRefusal : Refusal → Fault → Type 0
TellsRefusal why (fault.OfFile file name f) = ⊥
TellsRefusal why (fault.Refused line) = line ≡ refusal_fault why
TellsRefusal why fault.Memory = Unit {0}

-- a batch has no margin under the parameters: it is refused, with the line of the refusal, or memory ran out
abbrev pub BatchFails : Params → List TradeRows → Fault → Type 0
BatchFails p trades f = (f ≡ fault.Memory) ⊎ ((why : Refusal) × (if_admitted (first_unadmitted p trades) (range p (rows_of trades)) ≡ reply.Refused why) × TellsRefusal why f)

-- what the fault of a batch says of it
abbrev pub Says : Params → List TradeRows → BookFault → Type 0
Says p trades (book.BucketUnknown trade row) = first_unadmitted p trades ≡ Some (record { trade = trade; row = row })
Says p trades (book.Range f) = (first_unadmitted p trades ≡ None) × (range p (rows_of trades) ≡ Some f)
Says p trades book.Memory = Unit {0}

-- what a batch comes to under the parameters, where it is admitted and in range: something of this kind; or why there is none
abbrev pub BatchComesTo : {A : Type 0} → (A → Type 0) → Params → List TradeRows → Result A Fault → Type 0
BatchComesTo IsIts p trades (Ok x) = (first_unadmitted p trades ≡ None) × (range p (rows_of trades) ≡ None) × IsIts x
BatchComesTo IsIts p trades (Err f) = BatchFails p trades f

-- its margin
abbrev pub BatchEnds : Params → List TradeRows → Result Breakdown Fault → Type 0
BatchEnds p trades result = BatchComesTo (λ b. b ≡ simm p (rows_of trades)) p trades result

-- both files were read, and then memory ran out, for the margin or for the line of a refusal
pub record IsStarved (params_name crif_name : List ℕ) (old new : FolderSeen) : Type 0 where
  pub p : Params
  pub trades : List TradeRows
  pub both : HasBoth params_name crif_name old new p trades

-- what happened at each fault of a calculation, which has no other file
abbrev pub CalcCause : List ℕ → List ℕ → FolderSeen → FolderSeen → Fault → Type 0
CalcCause params_name crif_name old new (fault.OfFile input.Params name f) =
    (name.now ≡ params_name) × NoValue old new no_deeds params_name RefusesParams f
CalcCause params_name crif_name old new (fault.OfFile input.Crif name f) =
    (name.now ≡ crif_name) × FailsAfterParams params_name crif_name (RefusesTrades (codes "CRIF")) old new f
CalcCause params_name crif_name old new (fault.OfFile _ name f) = ⊥
CalcCause params_name crif_name old new (fault.Refused line) = IsRefused params_name crif_name old new line
CalcCause params_name crif_name old new fault.Memory = IsStarved params_name crif_name old new

-- what reading both files does: the values of both, or why there are none
abbrev pub BothEnd : List ℕ → List ℕ → FolderSeen → FolderSeen → Result CalcInput Fault → Type 0
BothEnd params_name crif_name old new (Ok input) = HasBoth params_name crif_name old new input.params input.batch
BothEnd params_name crif_name old new (Err f) = CalcCause params_name crif_name old new f

-- what working out a margin does: the margin, or why there is none
abbrev pub MarginEnds : List ℕ → List ℕ → FolderSeen → FolderSeen → Result Breakdown Fault → Type 0
MarginEnds params_name crif_name old new (Ok b) = HasMargin params_name crif_name old new b
MarginEnds params_name crif_name old new (Err f) = CalcCause params_name crif_name old new f

-- what printing a margin does, by its status
abbrev pub MarginPrints : Breakdown → SinkSeen → SinkSeen → Status → Type 0
MarginPrints b old new status.Done = Got old new (margin_text b)
MarginPrints b old new status.Write = GotFront old new (margin_text b)
MarginPrints b old new status.Memory = new.holds ≡ old.holds
MarginPrints b old new _ = ⊥

-- the margin was worked out, and printed as the status says
pub record EndsWithMargin (params_name crif_name : List ℕ) (old new : FolderSeen) (out_old out_new : SinkSeen) (s : Status) : Type 0 where
  pub b : Breakdown
  pub margin : HasMargin params_name crif_name old new b
  pub printed : MarginPrints b out_old out_new s

-- what a calculation with this status did
abbrev pub CalcEnds : List ℕ → List ℕ → FolderSeen → FolderSeen → SinkSeen → SinkSeen → Status → Type 0
CalcEnds params_name crif_name old new out_old out_new s =
    EndsWithMargin params_name crif_name old new out_old out_new s
    ⊎ EndsAtFault (CalcCause params_name crif_name old new) out_old out_new s
