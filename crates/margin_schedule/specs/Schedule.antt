-- What a margin by the schedule does: for each status what happened, and what was printed.
use Rattle.std.specs.Prelude.{ℕ, ◌≡◌, List, ◌⊎◌, Result, Ok, Err, IsErrAnd}
use Rattle.mh_io.specs.Folder.{FolderSeen}
use Rattle.mh_io.specs.Sink.{SinkSeen}
use Rattle.schedule_im.specs.IsoDates.declared.date.DateNumbers.{DateNumbers}
use Rattle.schedule_im.specs.declared.margin.ScheduleMargin.{ScheduleMargin}
use Rattle.schedule_im.specs.declared.margin.ScheduleRange.{ScheduleRange}
use Rattle.schedule_im.specs.declared.row.ScheduleRow.{ScheduleRow}
use Rattle.schedule_im.specs.Margin.{schedule_margin}
use Rattle.schedule_reader.specs.Grammar.{schedule_of}
use Rattle.command_files.specs.declared.status.Status.{Status}
use Rattle.command_files.specs.declared.status.Status.TheVariants as status
use Rattle.command_files.specs.declared.fault.InputFile.TheVariants as input
use Rattle.command_files.specs.declared.fault.Fault.{Fault}
use Rattle.command_files.specs.declared.fault.Fault.TheVariants as fault
use Rattle.command_files.specs.Files.{no_deeds, IsRead, NoValue}
use Rattle.command_files.specs.Printed.{Got, GotFront}
use Rattle.command_files.specs.Ending.{EndsAtFault}
use Rattle.margin_schedule.specs.FaultLines.{schedule_fault, range_fault}
use Rattle.margin_schedule.specs.MarginLines.{margin_text}

-- what the bytes of the file are by the grammar of the schedule: its rows, or refused with the line of their first fault
abbrev pub GivesRows : List ℕ → List ScheduleRow → Type 0
GivesRows bytes rows = schedule_of bytes ≡ Ok rows

abbrev pub RefusesRows : List ℕ → List ℕ → Type 0
RefusesRows bytes line = IsErrAnd (schedule_of bytes) (λ e. line ≡ schedule_fault e)

-- the file was read whole, and has these rows
abbrev pub HasRows : List ℕ → FolderSeen → FolderSeen → List ScheduleRow → Type 0
HasRows crif_name old new rows = IsRead old new no_deeds crif_name (λ bytes. GivesRows bytes rows)

-- The margin is that of the written rule on the day, over the rows that the file has by its grammar.
pub record HasMargin (day : DateNumbers) (crif_name : List ℕ) (old new : FolderSeen) (m : ScheduleMargin) : Type 0 where
  pub rows : List ScheduleRow
  pub read : HasRows crif_name old new rows
  pub margin : schedule_margin rows day ≡ Ok m

-- The file was read, and its amounts are too large; the line tells their sizes.
pub record IsRefused (day : DateNumbers) (crif_name : List ℕ) (old new : FolderSeen) (line : List ℕ) : Type 0 where
  pub rows : List ScheduleRow
  pub why : ScheduleRange
  pub read : HasRows crif_name old new rows
  pub refused : schedule_margin rows day ≡ Err why
  pub tells : line ≡ range_fault why

-- the file was read, and then memory ran out for the line of a refusal
pub record IsStarved (crif_name : List ℕ) (old new : FolderSeen) : Type 0 where
  pub rows : List ScheduleRow
  pub read : HasRows crif_name old new rows

-- what happened at each fault, where there is no other file
abbrev pub ScheduleCause : DateNumbers → List ℕ → FolderSeen → FolderSeen → Fault → Type 0
ScheduleCause day crif_name old new (fault.OfFile input.Crif name f) =
    (name.now ≡ crif_name) × NoValue old new no_deeds crif_name RefusesRows f
ScheduleCause day crif_name old new (fault.OfFile _ name f) = ⊥
ScheduleCause day crif_name old new (fault.Refused line) = IsRefused day crif_name old new line
ScheduleCause day crif_name old new fault.Memory = IsStarved crif_name old new

-- what the rows of a file come to: their margin, a refusal with its line, or no memory for it
abbrev pub RowsEnd : DateNumbers → List ScheduleRow → Result ScheduleMargin Fault → Type 0
RowsEnd day rows (Ok m) = schedule_margin rows day ≡ Ok m
RowsEnd day rows (Err (fault.OfFile file name f)) = ⊥
RowsEnd day rows (Err (fault.Refused line)) = IsErrAnd (schedule_margin rows day) (λ why. line ≡ range_fault why)
RowsEnd day rows (Err fault.Memory) = Unit {0}

-- what working out a margin does: the margin, or why there is none
abbrev pub MarginEnds : DateNumbers → List ℕ → FolderSeen → FolderSeen → Result ScheduleMargin Fault → Type 0
MarginEnds day crif_name old new (Ok m) = HasMargin day crif_name old new m
MarginEnds day crif_name old new (Err f) = ScheduleCause day crif_name old new f

-- what printing a margin does, by its status
abbrev pub MarginPrints : ScheduleMargin → SinkSeen → SinkSeen → Status → Type 0
MarginPrints m old new status.Done = Got old new (margin_text m)
MarginPrints m old new status.Write = GotFront old new (margin_text m)
MarginPrints m old new status.Memory = new.holds ≡ old.holds
MarginPrints m old new _ = ⊥

-- the margin was worked out, and printed as the status says
pub record EndsWithMargin (day : DateNumbers) (crif_name : List ℕ) (old new : FolderSeen) (out_old out_new : SinkSeen) (s : Status) : Type 0 where
  pub m : ScheduleMargin
  pub margin : HasMargin day crif_name old new m
  pub printed : MarginPrints m out_old out_new s

-- what the command with this status did
abbrev pub ScheduleEnds : DateNumbers → List ℕ → FolderSeen → FolderSeen → SinkSeen → SinkSeen → Status → Type 0
ScheduleEnds day crif_name old new out_old out_new s =
    EndsWithMargin day crif_name old new out_old out_new s
    ⊎ EndsAtFault (ScheduleCause day crif_name old new) out_old out_new s
