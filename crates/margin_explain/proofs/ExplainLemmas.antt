-- What a batch comes to once both files were read, and that an explanation for which all is well succeeds or finds no memory.
use Rattle.std.proofs.Common.{ℕ, List, Result, Ok, Err, inl, inr, sym, subst, ◌∙◌}
use Rattle.mh_io.specs.Faults.{Rises}
use Rattle.mh_io.specs.Folder.{FolderSeen}
use Rattle.mh_io.specs.Sink.{SinkSeen}
use Rattle.explain_text.specs.SimmKinds.declared.row.TradeRows.{TradeRows}
use Rattle.explain_text.specs.SimmRules.Params.{Params}
use Rattle.margin_calc.specs.CommandFiles.declared.fault.Fault.{Fault}
use Rattle.margin_calc.specs.CommandFiles.declared.status.Status.{Status}
use Rattle.margin_calc.specs.CommandFiles.declared.status.Status.TheVariants as status
use Rattle.margin_calc.specs.CommandFiles.Complete.{EndsWell}
use Rattle.margin_calc.specs.CommandFiles.Printed.{Prints}
use Rattle.margin_calc.specs.Calc.{HasBoth}
use Rattle.margin_calc.specs.Complete.{IsWell}
use Rattle.margin_calc.proofs.CalcLemmas.{fails_cause}
use Rattle.margin_calc.proofs.CompleteLemmas.{only_memory}
use Rattle.margin_explain.specs.Explain.{TextEnds, ExplainedEnds, ExplainEnds}

-- both files were read, and the batch came to its lines or not
pub text_ends : (old new : FolderSeen) (params_name crif_name : List ℕ) (p : Params) (trades : List TradeRows) (r : Result (List ℕ) Fault) → HasBoth params_name crif_name old new p trades → TextEnds p trades r → ExplainedEnds params_name crif_name old new r
text_ends old new params_name crif_name p trades (Ok text) both ends = record { p = p; trades = trades; both = both; admitted = ends.0; in_range = ends.1; explained = ends.2 }
text_ends old new params_name crif_name p trades (Err f) both fails = fails_cause old new params_name crif_name p trades f both fails

-- a sink that doesn't fail gets all of a text
printed_well : (text : List ℕ) (old new : SinkSeen) (s : Status) → (Rises old.faults new.faults → ⊥) → Prints text old new s → EndsWell s
printed_well text old new status.Done stood h = tt
printed_well text old new status.Write stood h = absurd (stood h.rose)
printed_well text old new _ stood h = absurd h

-- no other status than Done and Memory comes
pub ends_well : (pn cn : List ℕ) (old new : FolderSeen) (out_old out_new : SinkSeen) (s : Status) → ExplainEnds pn cn old new out_old out_new s → IsWell pn cn old new out_old out_new → EndsWell s
ends_well pn cn old new out_old out_new s (inl h) w = printed_well h.text out_old out_new s w.puts_stood h.printed
ends_well pn cn old new out_old out_new s (inr h) w =
    subst EndsWell (sym (only_memory pn cn old new out_old out_new w h.f h.cause) ∙ h.status) tt
