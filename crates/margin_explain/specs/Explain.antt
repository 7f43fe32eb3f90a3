-- What an explanation of a margin does: for each status what happened, and what was printed.
use Rattle.std.specs.Prelude.{ℕ, ◌≡◌, List, None, ◌⊎◌, Result, Ok, Err}
use Rattle.mh_io.specs.Folder.{FolderSeen}
use Rattle.mh_io.specs.Sink.{SinkSeen}
use Rattle.explain_text.specs.SimmKinds.declared.row.TradeRows.{TradeRows}
use Rattle.explain_text.specs.SimmKinds.Batch.{rows_of}
use Rattle.explain_text.specs.SimmRules.Params.{Params}
use Rattle.explain_text.specs.SimmRules.Range.{range}
use Rattle.explain_text.specs.BucketCache.Live.{first_unadmitted}
use Rattle.margin_calc.specs.CommandFiles.declared.fault.Fault.{Fault}
use Rattle.margin_calc.specs.CommandFiles.declared.status.Status.{Status}
use Rattle.margin_calc.specs.CommandFiles.Ending.{EndsAtFault}
use Rattle.margin_calc.specs.CommandFiles.Printed.{Prints}
use Rattle.explain_text.specs.Explained.{explain_text}
use Rattle.margin_calc.specs.Calc.{HasBoth, CalcCause, BatchComesTo}

-- The text is how the margin comes about by the written rule, over the parameters and the book that the two files have by their
-- grammars.
pub record HasText (params_name crif_name : List ℕ) (old new : FolderSeen) (text : List ℕ) : Type 0 where
  pub p : Params
  pub trades : List TradeRows
  pub both : HasBoth params_name crif_name old new p trades
  pub admitted : first_unadmitted p trades ≡ None
  pub in_range : range p (rows_of trades) ≡ None
  pub explained : text ≡ explain_text p (rows_of trades)

-- what a batch comes to under the parameters: its lines, a refusal, or no memory
abbrev pub TextEnds : Params → List TradeRows → Result (List ℕ) Fault → Type 0
TextEnds p trades result = BatchComesTo (λ text. text ≡ explain_text p (rows_of trades)) p trades result

-- what working out the lines does: the lines, or why there are none, by the causes of a calculation
abbrev pub ExplainedEnds : List ℕ → List ℕ → FolderSeen → FolderSeen → Result (List ℕ) Fault → Type 0
ExplainedEnds params_name crif_name old new (Ok text) = HasText params_name crif_name old new text
ExplainedEnds params_name crif_name old new (Err f) = CalcCause params_name crif_name old new f

-- the lines were worked out, and printed as the status says
pub record EndsWithText (params_name crif_name : List ℕ) (old new : FolderSeen) (out_old out_new : SinkSeen) (s : Status) : Type 0 where
  pub text : List ℕ
  pub has : HasText params_name crif_name old new text
  pub printed : Prints text out_old out_new s

-- what an explanation with this status did
abbrev pub ExplainEnds : List ℕ → List ℕ → FolderSeen → FolderSeen → SinkSeen → SinkSeen → Status → Type 0
ExplainEnds params_name crif_name old new out_old out_new s =
    EndsWithText params_name crif_name old new out_old out_new s
    ⊎ EndsAtFault (CalcCause params_name crif_name old new) out_old out_new s
