-- When a margin by the schedule has to succeed.
use Rattle.std.specs.Prelude.{ℕ, ◌≡◌, ◌≤◌, List, length, Some}
use Rattle.mh_io.specs.Faults.{Rises}
use Rattle.mh_io.specs.Sink.{SinkSeen}
use Rattle.mh_io.specs.Folder.{Telling, file_of, FolderSeen}
use Rattle.mh_io.specs.Limits.{most_bytes}
use Rattle.schedule_im.specs.declared.row.ScheduleRow.{ScheduleRow}
use Rattle.schedule_im.specs.Rule.{sizes, most_sizes}
use Rattle.margin_schedule.specs.Schedule.{GivesRows}

-- the folder has the file, it isn't too long and is inside its grammar, its amounts are in range, and no count of faults rose
pub record IsWellSchedule (crif_name : List ℕ) (old new : FolderSeen) (out_old out_new : SinkSeen) : Type 0 where
  pub t : Telling
  pub bytes : List ℕ
  pub rows : List ScheduleRow
  pub told : old.told ≡ Some t
  pub has : file_of t.files crif_name ≡ Some bytes
  pub fits : length bytes ≤ most_bytes
  pub read : GivesRows bytes rows
  pub in_range : sizes rows ≤ most_sizes
  pub finds_stood : Rises old.find_faults new.find_faults → ⊥
  pub reads_stood : Rises old.read_faults new.read_faults → ⊥
  pub puts_stood : Rises out_old.faults out_new.faults → ⊥
