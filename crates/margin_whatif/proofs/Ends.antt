-- A what-if from one file to the next.
use Rattle.std.proofs.Common.{◌≡◌, ◌≤◌, ℕ, List, None, Result, Ok, Err, codes, subst, inr}
use Rattle.mh_io.specs.Folder.{FolderSeen}
use Rattle.whatif.specs.BucketCache.Live.{first_unadmitted}
use Rattle.whatif.specs.BucketCache.SimmRules.Params.{Params}
use Rattle.whatif.specs.BucketCache.SimmRules.Range.{range}
use Rattle.whatif.specs.BucketCache.SimmRules.SimmKinds.declared.row.TradeRows.{TradeRows}
use Rattle.whatif.specs.BucketCache.SimmRules.SimmKinds.Batch.{rows_of}
use Rattle.margin_calc.specs.CommandFiles.declared.fault.FileFault.{FileFault}
use Rattle.margin_calc.specs.CommandFiles.declared.fault.Fault.{Fault}
use Rattle.margin_calc.specs.CommandFiles.declared.fault.Fault.TheVariants as fault
use Rattle.margin_calc.specs.CommandFiles.Files.{no_deeds, IsRead, NoValue}
use Rattle.margin_calc.specs.CommandFiles.Grammars.{GivesTrades, RefusesTrades}
use Rattle.margin_calc.proofs.CommandFiles.AfterParamsLemmas.{whole_before}
use Rattle.margin_calc.specs.Calc.{HasBoth}
use Rattle.margin_whatif.specs.WhatIf.{RefusalEnds, HasBook, HasAll, FailsAfterBook, TextEnds, both_read}
use Rattle.margin_whatif.proofs.Behind.{did_reading, no_value_behind}

has_book : (pn cn : List ℕ) (old mid : FolderSeen) (p : Params) (trades : List TradeRows) (both : HasBoth pn cn old mid p trades) → first_unadmitted p trades ≡ None → range p (rows_of trades) ≡ None → HasBook pn cn old both.param_bytes both.crif_bytes p trades
has_book pn cn old mid p trades both admitted in_range =
    record { params = both.params; whole = both.whole; values = both.values; admitted = admitted; in_range = in_range }

-- the book was taken in, and then the candidate's file gave no value
pub fails_after_book : (pn cn an : List ℕ) (old mid new : FolderSeen) (p : Params) (trades : List TradeRows) (f : FileFault) → HasBoth pn cn old mid p trades
    → first_unadmitted p trades ≡ None → range p (rows_of trades) ≡ None → old.find_faults ≤ mid.find_faults → old.read_faults ≤ mid.read_faults
    → NoValue mid new no_deeds an (RefusesTrades (codes "CANDIDATE")) f → FailsAfterBook pn cn an old new f
fails_after_book pn cn an old mid new p trades f both admitted in_range finds reads h = record {
  param_bytes = both.param_bytes;
  param_faults = both.param_faults;
  crif_bytes = both.crif_bytes;
  crif_faults = both.crif_faults;
  p = p;
  trades = trades;
  book = has_book pn cn old mid p trades both admitted in_range;
  failed = no_value_behind old mid new (both_read pn both.param_bytes both.param_faults cn both.crif_bytes both.crif_faults) an (RefusesTrades (codes "CANDIDATE")) f both.did finds reads h;
}

-- or it gave one
pub has_all : (pn cn an : List ℕ) (old mid new : FolderSeen) (p : Params) (trades candidate : List TradeRows) → HasBoth pn cn old mid p trades
    → first_unadmitted p trades ≡ None → range p (rows_of trades) ≡ None → IsRead mid new no_deeds an (λ bytes. GivesTrades bytes candidate)
    → HasAll pn cn an old new p trades candidate
has_all pn cn an old mid new p trades candidate both admitted in_range read =
    let before = both_read pn both.param_bytes both.param_faults cn both.crif_bytes both.crif_faults in record {
      param_bytes = both.param_bytes;
      param_faults = both.param_faults;
      crif_bytes = both.crif_bytes;
      crif_faults = both.crif_faults;
      candidate_bytes = read.bytes;
      candidate_faults = read.faults;
      did = did_reading old mid new before an read.bytes read.faults both.did read.did;
      book = has_book pn cn old mid p trades both admitted in_range;
      whole = whole_before old mid before an read.bytes both.did read.whole;
      values = read.so;
    }

-- and then the lines came, or why there are none
pub text_ends : (pn cn an : List ℕ) (names : List (List ℕ)) (old new : FolderSeen) (p : Params) (trades candidate : List TradeRows) (r : Result (List ℕ) Fault)
    → HasAll pn cn an old new p trades candidate → RefusalEnds p trades names candidate r → TextEnds pn cn an names old new r
text_ends pn cn an names old new p trades candidate (Ok text) all ends = record { p = p; trades = trades; candidate = candidate; all = all; none = ends.0; is = ends.1 }
text_ends pn cn an names old new p trades candidate (Err (fault.OfFile file name f)) all ends = absurd ends
text_ends pn cn an names old new p trades candidate (Err (fault.Refused line)) all ends =
    inr (record { p = p; trades = trades; candidate = candidate; all = all; why = ends.0; refused = ends.1; tells = ends.2 })
text_ends pn cn an names old new p trades candidate (Err fault.Memory) all ends = inr (record { p = p; trades = trades; candidate = candidate; all = all })

-- the live margin was of these tables and this book
pub ends_of_live : (p q : Params) (book us : List TradeRows) (names : List (List ℕ)) (candidate : List TradeRows) (r : Result (List ℕ) Fault) → q ≡ p → us ≡ book
    → RefusalEnds q us names candidate r → RefusalEnds p book names candidate r
ends_of_live p q book us names candidate r params trades ends =
    subst (λ x. RefusalEnds x book names candidate r) params (subst (λ x. RefusalEnds q x names candidate r) trades ends)
