-- A what-if for which all is well succeeds, or finds no memory.
use Rattle.std.proofs.Common.{◌≡◌, ℕ, List, Some, None, codes, ap, sym, refl, subst, inl, inr, ◌∙◌}
use Rattle.mh_io.specs.Faults.{Rises}
use Rattle.mh_io.specs.Folder.{FolderSeen}
use Rattle.mh_io.specs.Sink.{SinkSeen}
use Rattle.whatif.specs.BucketCache.SimmRules.SimmKinds.declared.row.TradeRows.{TradeRows}
use Rattle.whatif.specs.Faults.{first_fault}
use Rattle.margin_calc.specs.CommandFiles.declared.status.Status.{Status}
use Rattle.margin_calc.specs.CommandFiles.declared.status.Status.TheVariants as status
use Rattle.margin_calc.specs.CommandFiles.declared.fault.InputFile.TheVariants as input
use Rattle.margin_calc.specs.CommandFiles.declared.fault.Fault.{Fault}
use Rattle.margin_calc.specs.CommandFiles.declared.fault.Fault.TheVariants as fault
use Rattle.margin_calc.specs.CommandFiles.Complete.{EndsWell}
use Rattle.margin_calc.specs.CommandFiles.Ending.{status_of}
use Rattle.margin_calc.specs.CommandFiles.Files.{IsWhole}
use Rattle.margin_calc.specs.CommandFiles.Grammars.{GivesTrades, RefusesTrades}
use Rattle.margin_calc.specs.CommandFiles.Printed.{Prints}
use Rattle.margin_calc.proofs.CommandFiles.KnownFiles.{same_bytes, only_memory_for, trades_taken}
use Rattle.margin_calc.proofs.CompleteLemmas.{same_params, one_book, same_trades, only_memory as only_memory_before}
use Rattle.margin_whatif.specs.Complete.{IsWellWhatIf}
use Rattle.margin_whatif.specs.WhatIf.{IsRefusedAfter, WhatIfCause, WhatIfEnds, both_read}

-- a candidate that was read is that of the file
same_candidate : (pn cn an : List ℕ) (names : List (List ℕ)) (old new : FolderSeen) (out_old out_new : SinkSeen) (w : IsWellWhatIf pn cn an names old new out_old out_new)
    (bytes : List ℕ) (candidate : List TradeRows) → IsWhole old an bytes → GivesTrades bytes candidate → candidate ≡ w.candidate
same_candidate pn cn an names old new out_old out_new w bytes candidate whole read =
    let same : bytes ≡ w.candidate_bytes = same_bytes old.told (w.calc).t an bytes w.candidate_bytes (w.calc).told whole.whole w.has_candidate in
    one_book w.candidate_bytes candidate w.candidate (subst (λ b. GivesTrades b candidate) same read) w.candidate_read

-- what all is well for isn't refused
none_refused : (pn cn an : List ℕ) (names : List (List ℕ)) (old new : FolderSeen) (out_old out_new : SinkSeen) (w : IsWellWhatIf pn cn an names old new out_old out_new)
    (line : List ℕ) → IsRefusedAfter pn cn an names old new line → ⊥
none_refused pn cn an names old new out_old out_new w line h =
    let calc = w.calc in
    let all = h.all in
    let book = all.book in
    let p_is : h.p ≡ calc.p = same_params pn cn old new out_old out_new calc all.param_bytes h.p (book.params).whole (book.params).values in
    let trades_are : h.trades ≡ calc.trades = same_trades pn cn old new out_old out_new calc all.crif_bytes h.trades book.whole book.values in
    let candidate_is : h.candidate ≡ w.candidate = same_candidate pn cn an names old new out_old out_new w all.candidate_bytes h.candidate all.whole all.values in
    let none : first_fault h.p names (Some h.candidate) h.trades ≡ None =
    ap (λ p. first_fault p names (Some h.candidate) h.trades) p_is
    ∙ ap (λ candidate. first_fault calc.p names (Some candidate) h.trades) candidate_is
    ∙ ap (λ trades. first_fault calc.p names (Some w.candidate) trades) trades_are ∙ w.none in
    let refused = h.refused in
    cc

-- no fault comes but want of memory
only_memory : (pn cn an : List ℕ) (names : List (List ℕ)) (old new : FolderSeen) (out_old out_new : SinkSeen)
    → IsWellWhatIf pn cn an names old new out_old out_new → (f : Fault) → WhatIfCause pn cn an names old new f → status_of f ≡ status.Memory
only_memory pn cn an names old new out_old out_new w (fault.OfFile input.Params name f) h =
    only_memory_before pn cn old new out_old out_new w.calc (fault.OfFile input.Params name f) h
only_memory pn cn an names old new out_old out_new w (fault.OfFile input.Crif name f) h =
    only_memory_before pn cn old new out_old out_new w.calc (fault.OfFile input.Crif name f) h
only_memory pn cn an names old new out_old out_new w (fault.OfFile input.Candidate name f) h =
    let calc = w.calc in
    let fails = h.1 in
    let before = both_read pn fails.param_bytes fails.param_faults cn fails.crif_bytes fails.crif_faults in
    ap (λ e. status_of (fault.OfFile input.Candidate name e))
    (only_memory_for old new before an w.candidate_bytes (RefusesTrades (codes "CANDIDATE")) calc.t f calc.told w.has_candidate w.candidate_fits
    (trades_taken (codes "CANDIDATE") w.candidate_bytes w.candidate w.candidate_read) calc.finds_stood calc.reads_stood fails.failed)
only_memory pn cn an names old new out_old out_new w (fault.OfFile _ name f) h = absurd h
only_memory pn cn an names old new out_old out_new w (fault.Refused line) (inl h) =
    only_memory_before pn cn old new out_old out_new w.calc (fault.Refused line) h
only_memory pn cn an names old new out_old out_new w (fault.Refused line) (inr h) = absurd (none_refused pn cn an names old new out_old out_new w line h)
only_memory pn cn an names old new out_old out_new w fault.Memory h = refl

-- a sink that doesn't fail gets all of a text
printed_well : (text : List ℕ) (old new : SinkSeen) (s : Status) → (Rises old.faults new.faults → ⊥) → Prints text old new s → EndsWell s
printed_well text old new status.Done stood h = tt
printed_well text old new status.Write stood h = absurd (stood h.rose)
printed_well text old new _ stood h = absurd h

-- no other status than Done and Memory comes
pub ends_well : (pn cn an : List ℕ) (names : List (List ℕ)) (old new : FolderSeen) (out_old out_new : SinkSeen) (s : Status)
    → WhatIfEnds pn cn an names old new out_old out_new s → IsWellWhatIf pn cn an names old new out_old out_new → EndsWell s
ends_well pn cn an names old new out_old out_new s (inl h) w = printed_well h.text out_old out_new s (w.calc).puts_stood h.printed
ends_well pn cn an names old new out_old out_new s (inr h) w =
    subst EndsWell (sym (only_memory pn cn an names old new out_old out_new w h.f h.cause) ∙ h.status) tt
