-- A margin by the schedule for which all is well succeeds, or finds no memory.
use Rattle.std.proofs.Common.{◌≡◌, ◌≤◌, ℕ, List, Result, Ok, Err, IsErrAnd, ap, sym, refl, subst, inl, inr, ◌∙◌}
use Rattle.std.proofs.lemmas.Bool.{le-ltb}
use Rattle.mh_io.specs.Faults.{Rises}
use Rattle.mh_io.specs.Sink.{SinkSeen}
use Rattle.mh_io.specs.Folder.{FolderSeen}
use Rattle.schedule_im.specs.IsoDates.declared.date.DateNumbers.{DateNumbers}
use Rattle.schedule_im.specs.declared.margin.ScheduleMargin.{ScheduleMargin}
use Rattle.schedule_im.specs.declared.row.ScheduleRow.{ScheduleRow}
use Rattle.schedule_im.specs.Margin.{schedule_margin, margin_by_rule}
use Rattle.schedule_im.specs.Rule.{sizes, most_sizes}
use Rattle.schedule_reader.specs.Grammar.{schedule_of}
use Rattle.command_files.specs.declared.status.Status.{Status}
use Rattle.command_files.specs.declared.status.Status.TheVariants as status
use Rattle.command_files.specs.declared.fault.InputFile.TheVariants as input
use Rattle.command_files.specs.declared.fault.Fault.{Fault}
use Rattle.command_files.specs.declared.fault.Fault.TheVariants as fault
use Rattle.command_files.specs.Files.{no_deeds}
use Rattle.command_files.specs.Ending.{status_of}
use Rattle.command_files.specs.Complete.{EndsWell}
use Rattle.command_files.proofs.KnownFiles.{same_bytes, only_memory_for}
use Rattle.margin_schedule.specs.Complete.{IsWellSchedule}
use Rattle.margin_schedule.specs.FaultLines.{schedule_fault}
use Rattle.margin_schedule.specs.Schedule.{GivesRows, RefusesRows, ScheduleCause, MarginPrints, ScheduleEnds}

-- bytes that give rows are not refused
rows_taken : (bytes : List ℕ) (rows : List ScheduleRow) → GivesRows bytes rows → (line : List ℕ) → RefusesRows bytes line → ⊥
rows_taken bytes rows known line refused = subst (λ read. IsErrAnd read (λ e. line ≡ schedule_fault e)) known refused

-- rows in range have a margin
in_range_has : (rows : List ScheduleRow) (day : DateNumbers) → sizes rows ≤ most_sizes → schedule_margin rows day ≡ Ok (margin_by_rule day rows)
unfolding schedule_margin
in_range_has rows day few = rw (le-ltb most_sizes (sizes rows) few) refl

-- no fault comes but want of memory
only_memory : (day : DateNumbers) (cn : List ℕ) (old new : FolderSeen) (out_old out_new : SinkSeen)
    → IsWellSchedule cn old new out_old out_new → (f : Fault) → ScheduleCause day cn old new f → status_of f ≡ status.Memory
only_memory day cn old new out_old out_new w (fault.OfFile input.Crif name f) h =
    ap (λ e. status_of (fault.OfFile input.Crif name e))
    (only_memory_for old new no_deeds cn w.bytes RefusesRows w.t f w.told w.has w.fits (rows_taken w.bytes w.rows w.read) w.finds_stood w.reads_stood h.1)
only_memory day cn old new out_old out_new w (fault.OfFile _ name f) h = absurd h
only_memory day cn old new out_old out_new w (fault.Refused line) h =
    let r = h.read in
    let same : r.bytes ≡ w.bytes = same_bytes old.told w.t cn r.bytes w.bytes w.told (r.whole).whole w.has in
    let read : schedule_of w.bytes ≡ Ok h.rows = subst (λ b. GivesRows b h.rows) same r.so in
    let known : schedule_of w.bytes ≡ Ok w.rows = w.read in
    let rows_are : h.rows ≡ w.rows = cc in
    let refused : schedule_margin w.rows day ≡ Err h.why = subst (λ rows. schedule_margin rows day ≡ Err h.why) rows_are h.refused in
    let has = in_range_has w.rows day w.in_range in
    cc
only_memory day cn old new out_old out_new w fault.Memory h = refl

-- a sink that doesn't fail gets all of a margin
printed_well : (m : ScheduleMargin) (old new : SinkSeen) (s : Status) → (Rises old.faults new.faults → ⊥) → MarginPrints m old new s → EndsWell s
printed_well m old new status.Done stood h = tt
printed_well m old new status.Memory stood h = tt
printed_well m old new status.Write stood h = absurd (stood h.rose)
printed_well m old new _ stood h = absurd h

-- no other status than Done and Memory comes
pub ends_well : (day : DateNumbers) (cn : List ℕ) (old new : FolderSeen) (out_old out_new : SinkSeen) (s : Status) → ScheduleEnds day cn old new out_old out_new s → IsWellSchedule cn old new out_old out_new → EndsWell s
ends_well day cn old new out_old out_new s (inl h) w = printed_well h.m out_old out_new s w.puts_stood h.printed
ends_well day cn old new out_old out_new s (inr h) w =
    subst EndsWell (sym (only_memory day cn old new out_old out_new w h.f h.cause) ∙ h.status) tt
