-- The files of a calculation, one after the other.
use Rattle.std.proofs.Common.{◌≡◌, ℕ, List, Option, Some, None, Result, Ok, Err, inl, inr, sym, subst, ap, ◌∙◌}
use Rattle.mh_io.specs.Folder.{FolderSeen}
use Rattle.simm_kinds.specs.declared.row.TradeRows.{TradeRows}
use Rattle.simm_kinds.specs.Batch.{rows_of}
use Rattle.simm_rules.specs.Params.{Params}
use Rattle.simm_rules.specs.declared.values.Breakdown.{Breakdown}
use Rattle.simm_rules.specs.declared.values.RangeFault.{RangeFault}
use Rattle.simm_rules.specs.Range.{range}
use Rattle.params_file.specs.Grammar.{params_of}
use Rattle.set_core.specs.BucketCache.declared.fault.BookFault.{BookFault}
use Rattle.set_core.specs.BucketCache.declared.fault.BookFault.TheVariants as book
use Rattle.set_core.specs.BucketCache.declared.place.RowPlace.{RowPlace}
use Rattle.set_core.specs.BucketCache.Live.{first_unadmitted}
use Rattle.set_core.specs.declared.refusal.Refusal.{Refusal}
use Rattle.set_core.specs.declared.refusal.Refusal.TheVariants as refusal
use Rattle.set_core.specs.declared.reply.Reply.TheVariants as reply
use Rattle.set_core.specs.Answer.{if_in_range, if_admitted}
use Rattle.command_files.specs.declared.fault.Fault.{Fault}
use Rattle.command_files.specs.declared.fault.Fault.TheVariants as fault
use Rattle.command_files.specs.Files.{no_deeds, with_reading, IsRead}
use Rattle.command_files.specs.Grammars.{GivesTrades}
use Rattle.command_files.proofs.FileLemmas.{did_more}
use Rattle.command_files.proofs.AfterParamsLemmas.{whole_before}
use Rattle.margin_calc.specs.Calc.{HasBoth, TellsRefusal, CalcCause, Says, BatchFails, BatchEnds, MarginEnds}

-- both files were read
pub both_read : (old mid new : FolderSeen) (params_name crif_name : List ℕ) (p : Params) (trades : List TradeRows) → IsRead old mid no_deeds params_name (λ bytes. params_of bytes ≡ Some p) → IsRead mid new no_deeds crif_name (λ bytes. GivesTrades bytes trades) → HasBoth params_name crif_name old new p trades
both_read old mid new params_name crif_name p trades first second = record {
  param_bytes = first.bytes;
  param_faults = first.faults;
  crif_bytes = second.bytes;
  crif_faults = second.faults;
  did = did_more old mid new params_name first.bytes first.faults (with_reading no_deeds crif_name second.bytes second.faults) first.did second.did;
  params = record { whole = first.whole; values = first.so };
  whole = whole_before old mid (with_reading no_deeds params_name first.bytes first.faults) crif_name second.bytes first.did second.whole;
  values = second.so;
}

-- ---- the refusal of a batch

unknown_refused : (at : Option RowPlace) (found : Option RangeFault) (trade row : ℕ) → at ≡ Some (record { trade = trade; row = row }) → if_admitted at found ≡ reply.Refused (refusal.BucketUnknown trade row)
unknown_refused at found trade row is = ap (λ o. if_admitted o found) is

range_refused : (at : Option RowPlace) (found : Option RangeFault) (f : RangeFault) → at ≡ None → found ≡ Some f → if_admitted at found ≡ reply.Refused (refusal.Range f)
range_refused at found f admitted is = ap (λ o. if_admitted o found) admitted ∙ ap if_in_range is

pub unknown_fails : (p : Params) (trades : List TradeRows) (trade row : ℕ) (f : Fault) → first_unadmitted p trades ≡ Some (record { trade = trade; row = row }) → TellsRefusal (refusal.BucketUnknown trade row) f → BatchFails p trades f
unknown_fails p trades trade row f is tells = inr (refusal.BucketUnknown trade row, unknown_refused (first_unadmitted p trades) (range p (rows_of trades)) trade row is, tells)

pub range_fails : (p : Params) (trades : List TradeRows) (fault : RangeFault) (f : Fault) → (first_unadmitted p trades ≡ None) × (range p (rows_of trades) ≡ Some fault) → TellsRefusal (refusal.Range fault) f → BatchFails p trades f
range_fails p trades fault f is tells = inr (refusal.Range fault, range_refused (first_unadmitted p trades) (range p (rows_of trades)) fault is.0 is.1, tells)

-- what a fault says that came of the trades as they were lent
pub says_of : {A : Type 0} (p : Params) (trades lent : List TradeRows) (e : BookFault) (r : Result A BookFault) → lent ≡ trades → r ≡ Err e
    → ((trade row : ℕ) → r ≡ Err (book.BucketUnknown trade row) → first_unadmitted p lent ≡ Some (record { trade = trade; row = row }))
    → ((fault : RangeFault) → r ≡ Err (book.Range fault) → range p (rows_of lent) ≡ Some fault)
    → ((fault : RangeFault) → r ≡ Err (book.Range fault) → first_unadmitted p lent ≡ None)
    → Says p trades e
says_of p trades lent e r same is unadmitted out admitted = subst (λ ts. Says p ts e) same (by e is)
  where
    by : (e : BookFault) → r ≡ Err e → Says p lent e
    by (book.BucketUnknown trade row) is = unadmitted trade row is
    by (book.Range fault) is = (admitted fault is, out fault is)
    by book.Memory is = tt

pub refused_cause : (old new : FolderSeen) (params_name crif_name : List ℕ) (p : Params) (trades : List TradeRows) (why : Refusal) (f : Fault) → HasBoth params_name crif_name old new p trades → if_admitted (first_unadmitted p trades) (range p (rows_of trades)) ≡ reply.Refused why → TellsRefusal why f → CalcCause params_name crif_name old new f
refused_cause old new params_name crif_name p trades why (fault.OfFile file name f) both refused tells = absurd tells
refused_cause old new params_name crif_name p trades why (fault.Refused line) both refused tells =
    record { p = p; trades = trades; why = why; both = both; refused = refused; tells = tells }
refused_cause old new params_name crif_name p trades why fault.Memory both refused tells = record { p = p; trades = trades; both = both }

-- both files were read, and the batch failed
pub fails_cause : (old new : FolderSeen) (params_name crif_name : List ℕ) (p : Params) (trades : List TradeRows) (f : Fault) → HasBoth params_name crif_name old new p trades → BatchFails p trades f → CalcCause params_name crif_name old new f
fails_cause old new params_name crif_name p trades f both (inl none) = subst (CalcCause params_name crif_name old new) (sym none) (record { p = p; trades = trades; both = both })
fails_cause old new params_name crif_name p trades f both (inr refused) = refused_cause old new params_name crif_name p trades refused.0 f both refused.1 refused.2

-- and the batch came to its margin or not
pub batch_ends : (old new : FolderSeen) (params_name crif_name : List ℕ) (p : Params) (trades : List TradeRows) (r : Result Breakdown Fault) → HasBoth params_name crif_name old new p trades → BatchEnds p trades r → MarginEnds params_name crif_name old new r
batch_ends old new params_name crif_name p trades (Ok b) both ends = record { p = p; trades = trades; both = both; admitted = ends.0; in_range = ends.1; margin = ends.2 }
batch_ends old new params_name crif_name p trades (Err f) both fails = fails_cause old new params_name crif_name p trades f both fails
