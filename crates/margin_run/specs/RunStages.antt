-- The stages of a run, each by itself.
use Rattle.std.specs.Prelude.{ℕ, ◌≡◌, ◌≤◌, List, length, map, Result, Ok, Err, nat_lt, if◌then◌else◌}
use Rattle.mh_io.specs.Folder.{FolderSeen}
use Rattle.feed_gate.specs.SetCore.Set.{Set}
use Rattle.feed_runs.specs.declared.feed_end.FeedEnd.{FeedEnd}
use Rattle.call_desk.specs.declared.publishing.Published.{Published}
use Rattle.feed_files.specs.CommandFiles.declared.status.Status.{Status}
use Rattle.feed_files.specs.CommandFiles.declared.status.Status.TheVariants as status
use Rattle.margin_run.specs.declared.feeds_run.FeedsRun.{FeedsRun}
use Rattle.margin_run.specs.declared.run_files.Outcome.{Outcome}
use Rattle.feed_files.specs.CommandFiles.declared.fault.Fault.{Fault}
use Rattle.feed_files.specs.CommandFiles.declared.texts.Printed.{Printed}
use Rattle.feed_files.specs.CommandFiles.declared.texts.Printed.TheVariants as printed
use Rattle.feed_files.specs.Ends.{status_of_end}
use Rattle.feed_files.specs.Unrun.{FeedsFail}
use Rattle.margin_run.specs.Fed.{AreFed}
use Rattle.margin_run.specs.Run.{HasRun, RunCause}

-- what running the feeds does
abbrev pub FeedsEnd : FolderSeen → FolderSeen → List (List ℕ) → List Set → Result FeedsRun Fault → Type 0
FeedsEnd old new names sets (Ok run) = AreFed names old new sets run.sets.items run.reports.items
FeedsEnd old new names sets (Err f) = FeedsFail names old new f

-- what the files of a run do; there are at most sixteen sets, and they keep their terms
abbrev pub RunFilesEnd : List ℕ → List ℕ → List (List ℕ) → FolderSeen → FolderSeen → Result Outcome Fault → Type 0
RunFilesEnd params_name terms_name feed_names old new (Ok run) =
    HasRun params_name terms_name feed_names old new run.sets.items run.reports.items
    × (run.terms ≡ map (λ s. s.terms) run.sets.items) × (length run.sets.items ≤ 16)
RunFilesEnd params_name terms_name feed_names old new (Err f) = RunCause params_name terms_name feed_names old new f

-- the status of desks that were told
abbrev pub status_of_desks : Published → Status
status_of_desks published =
    if nat_lt 0 published.failed then status.Desk
    else (if nat_lt 0 published.memory then status.Memory else status.Done)

-- the first that is not Done: of the feeds' ends, of the sink, of the desks
abbrev pub first_status : Status → Printed → Published → Status
first_status status.Done printed.Whole published = status_of_desks published
first_status status.Done printed.Cut published = status.Write
first_status s p published = s

abbrev pub status_at_end : FeedEnd → Printed → Published → Status
status_at_end end p published = first_status (status_of_end end) p published
