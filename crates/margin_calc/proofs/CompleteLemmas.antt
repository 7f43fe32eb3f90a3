-- A calculation for which all is well succeeds, or finds no memory.
use Rattle.std.proofs.Common.{◌≡◌, ℕ, List, Some, Result, Ok, Err, IsOkAnd, codes, ap, sym, refl, subst, inl, inr, ◌∙◌}
use Rattle.mh_io.specs.Faults.{Rises}
use Rattle.mh_io.specs.Sink.{SinkSeen}
use Rattle.mh_io.specs.Folder.{FolderSeen}
use Rattle.simm_kinds.specs.declared.row.TradeRows.{TradeRows}
use Rattle.simm_kinds.specs.Batch.{rows_of}
use Rattle.simm_rules.specs.declared.values.Breakdown.{Breakdown}
use Rattle.simm_rules.specs.Params.{Params}
use Rattle.simm_rules.specs.Range.{range}
use Rattle.params_file.specs.Grammar.{params_of}
use Rattle.set_core.specs.BucketCache.Live.{first_unadmitted}
use Rattle.set_core.specs.declared.reply.Reply.TheVariants as reply
use Rattle.set_core.specs.Answer.{if_in_range, if_admitted}
use Rattle.crif_reader.specs.declared.fault.CrifFault.{CrifFault}
use Rattle.crif_reader.specs.Grammar.{Crif, crif_of}
use Rattle.command_files.specs.declared.status.Status.{Status}
use Rattle.command_files.specs.declared.status.Status.TheVariants as status
use Rattle.command_files.specs.declared.fault.InputFile.TheVariants as input
use Rattle.command_files.specs.declared.fault.Fault.{Fault}
use Rattle.command_files.specs.declared.fault.Fault.TheVariants as fault
use Rattle.command_files.specs.Files.{IsWhole, no_deeds, with_reading}
use Rattle.command_files.specs.Grammars.{RefusesParams, GivesTrades, RefusesTrades}
use Rattle.command_files.specs.Ending.{status_of}
use Rattle.margin_calc.specs.Calc.{CalcCause, MarginPrints, CalcEnds}
use Rattle.command_files.specs.Complete.{EndsWell}
use Rattle.margin_calc.specs.Complete.{IsWell}
use Rattle.command_files.proofs.KnownFiles.{same_bytes, only_memory_for, params_taken, trades_taken}

-- parameters that were read are those of the file
pub same_params : (pn cn : List ℕ) (old new : FolderSeen) (out_old out_new : SinkSeen) (w : IsWell pn cn old new out_old out_new) (bytes : List ℕ) (p : Params) → IsWhole old pn bytes → params_of bytes ≡ Some p → p ≡ w.p
same_params pn cn old new out_old out_new w bytes p whole read =
    let same : bytes ≡ w.param_bytes = same_bytes old.told w.t pn bytes w.param_bytes w.told whole.whole w.has_params in
    let read' : params_of w.param_bytes ≡ Some p = subst (λ b. params_of b ≡ Some p) same read in
    let known : params_of w.param_bytes ≡ Some w.p = w.params_read in
    cc

-- a file has one batch
one_batch : (read : Result Crif CrifFault) (a b : List TradeRows) → IsOkAnd read (λ crif. crif.trades ≡ a) → IsOkAnd read (λ crif. crif.trades ≡ b) → a ≡ b
one_batch (Ok crif) a b h g = sym h ∙ g
one_batch (Err e) a b h g = absurd h

pub one_book : (bytes : List ℕ) (a b : List TradeRows) → GivesTrades bytes a → GivesTrades bytes b → a ≡ b
one_book bytes a b h g = one_batch (crif_of bytes) a b h g

pub same_trades : (pn cn : List ℕ) (old new : FolderSeen) (out_old out_new : SinkSeen) (w : IsWell pn cn old new out_old out_new) (bytes : List ℕ) (trades : List TradeRows) → IsWhole old cn bytes → GivesTrades bytes trades → trades ≡ w.trades
same_trades pn cn old new out_old out_new w bytes trades whole read =
    let same : bytes ≡ w.crif_bytes = same_bytes old.told w.t cn bytes w.crif_bytes w.told whole.whole w.has_crif in
    one_book w.crif_bytes trades w.trades (subst (λ b. GivesTrades b trades) same read) w.crif_read

-- no fault comes but want of memory
pub only_memory : (pn cn : List ℕ) (old new : FolderSeen) (out_old out_new : SinkSeen)
    → IsWell pn cn old new out_old out_new → (f : Fault) → CalcCause pn cn old new f → status_of f ≡ status.Memory
only_memory pn cn old new out_old out_new w (fault.OfFile input.Params name f) h =
    ap (λ e. status_of (fault.OfFile input.Params name e))
    (only_memory_for old new no_deeds pn w.param_bytes RefusesParams w.t f w.told w.has_params w.params_fit
    (params_taken w.param_bytes w.p w.params_read) w.finds_stood w.reads_stood h.1)
only_memory pn cn old new out_old out_new w (fault.OfFile input.Crif name f) h =
    let fails = h.1 in
    let before = with_reading no_deeds pn fails.param_bytes fails.param_faults in
    ap (λ e. status_of (fault.OfFile input.Crif name e))
    (only_memory_for old new before cn w.crif_bytes (RefusesTrades (codes "CRIF")) w.t f w.told w.has_crif w.crif_fits
    (trades_taken (codes "CRIF") w.crif_bytes w.trades w.crif_read)
    w.finds_stood w.reads_stood fails.failed)
only_memory pn cn old new out_old out_new w (fault.OfFile _ name f) h = absurd h
only_memory pn cn old new out_old out_new w (fault.Refused line) h =
    let b = h.both in
    let p_is : h.p ≡ w.p = same_params pn cn old new out_old out_new w b.param_bytes h.p (b.params).whole (b.params).values in
    let trades_are : h.trades ≡ w.trades = same_trades pn cn old new out_old out_new w b.crif_bytes h.trades b.whole b.values in
    let accepted : if_admitted (first_unadmitted h.p h.trades) (range h.p (rows_of h.trades)) ≡ reply.Accepted =
    ap (λ p. if_admitted (first_unadmitted p h.trades) (range p (rows_of h.trades))) p_is
    ∙ ap (λ trades. if_admitted (first_unadmitted w.p trades) (range w.p (rows_of trades))) trades_are
    ∙ ap (λ o. if_admitted o (range w.p (rows_of w.trades))) w.admitted ∙ ap if_in_range w.in_range in
    let refused = h.refused in
    cc
only_memory pn cn old new out_old out_new w fault.Memory h = refl

-- a sink that doesn't fail gets all of a margin
printed_well : (b : Breakdown) (old new : SinkSeen) (s : Status) → (Rises old.faults new.faults → ⊥) → MarginPrints b old new s → EndsWell s
printed_well b old new status.Done stood h = tt
printed_well b old new status.Memory stood h = tt
printed_well b old new status.Write stood h = absurd (stood h.rose)
printed_well b old new _ stood h = absurd h

-- no other status than Done and Memory comes
pub ends_well : (pn cn : List ℕ) (old new : FolderSeen) (out_old out_new : SinkSeen) (s : Status) → CalcEnds pn cn old new out_old out_new s → IsWell pn cn old new out_old out_new → EndsWell s
ends_well pn cn old new out_old out_new s (inl h) w = printed_well h.b out_old out_new s w.puts_stood h.printed
ends_well pn cn old new out_old out_new s (inr h) w =
    subst EndsWell (sym (only_memory pn cn old new out_old out_new w h.f h.cause) ∙ h.status) tt
