-- What the rows of a file come to, and the lines of the classes one after another.
use Rattle.std.proofs.Common.{◌≡◌, ℕ, ◌+◌, ◌<◌, List, ◌++◌, length, get_or, drop, Result, Ok, Err, IsErrAnd, refl, ap, sym, ◌∙◌, append_assoc}
use Rattle.std.specs.List.{flat_map}
use Rattle.std.proofs.lemmas.List.{drop_more}
use Rattle.mh_io.specs.Folder.{FolderSeen}
use Rattle.schedule_im.specs.IsoDates.declared.date.DateNumbers.{DateNumbers}
use Rattle.schedule_im.specs.declared.margin.ScheduleMargin.{ScheduleMargin}
use Rattle.schedule_im.specs.declared.margin.ScheduleRange.{ScheduleRange}
use Rattle.schedule_im.specs.declared.row.ScheduleRow.{ScheduleRow}
use Rattle.schedule_im.specs.Margin.{schedule_margin}
use Rattle.command_files.specs.declared.fault.Fault.{Fault}
use Rattle.command_files.specs.declared.fault.Fault.TheVariants as fault
use Rattle.margin_schedule.specs.FaultLines.{range_fault}
use Rattle.margin_schedule.specs.Schedule.{HasRows, IsRefused, RowsEnd, MarginEnds}

pub rows_end : (day : DateNumbers) (cn : List ℕ) (old new : FolderSeen) (rows : List ScheduleRow) (r : Result ScheduleMargin Fault) → HasRows cn old new rows → RowsEnd day rows r → MarginEnds day cn old new r
rows_end day cn old new rows (Ok m) read h = record { rows = rows; read = read; margin = h }
rows_end day cn old new rows (Err (fault.OfFile file name f)) read h = absurd h
rows_end day cn old new rows (Err (fault.Refused line)) read h = refused (schedule_margin rows day) refl h
  where
    refused : (r : Result ScheduleMargin ScheduleRange) → schedule_margin rows day ≡ r → IsErrAnd r (λ why. line ≡ range_fault why) → IsRefused day cn old new line
    refused (Ok m) e h = absurd h
    refused (Err why) e h = record { rows = rows; why = why; read = read; refused = e; tells = h }
rows_end day cn old new rows (Err fault.Memory) read h = record { rows = rows; read = read }

-- the line of the class at i, and then those of the classes behind it
pub line_more : {X : Type 0} (f : X → List ℕ) (xs : List X) (i : ℕ) (d : X) (text new : List ℕ) → i < length xs → new ≡ text ++ f (get_or xs i d) → new ++ flat_map f (drop (i + 1) xs) ≡ text ++ flat_map f (drop i xs)
line_more f xs i d text new p h =
    let rest = flat_map f (drop (i + 1) xs) in
    ap (λ t. t ++ rest) h ∙ append_assoc text (f (get_or xs i d)) rest ∙ ap (λ t. text ++ t) (sym (ap (flat_map f) (drop_more xs i d p)))
