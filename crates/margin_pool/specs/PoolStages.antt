-- The stages of a pool, each by itself.
use Rattle.std.specs.Prelude.{ℕ, ◌≡◌, ◌<◌, List, Result, Ok, Err}
use Rattle.mh_io.specs.Folder.{FolderSeen}
use Rattle.csa_terms.specs.Terms.{Agreements}
use Rattle.feed_runs.specs.declared.feed_end.FeedEnd.{FeedEnd}
use Rattle.feed_files.specs.CommandFiles.declared.status.Status.{Status}
use Rattle.feed_files.specs.CommandFiles.declared.status.Status.TheVariants as status
use Rattle.feed_files.specs.CommandFiles.declared.fault.Fault.{Fault}
use Rattle.feed_files.specs.CommandFiles.declared.fault.Fault.TheVariants as fault
use Rattle.feed_files.specs.CommandFiles.declared.texts.Printed.{Printed}
use Rattle.feed_files.specs.CommandFiles.declared.texts.Printed.TheVariants as printed
use Rattle.feed_files.specs.Ends.{status_of_end}
use Rattle.feed_files.specs.Unrun.{FeedsFail}
use Rattle.margin_pool.specs.declared.pool_files.Outcome.{Outcome}
use Rattle.margin_pool.specs.Pooled.{ArePooled}
use Rattle.margin_pool.specs.Pool.{HasPooled, PoolCause, crowd_line}

-- more feeds than sets: the line tells how many, or there was no memory for it
abbrev pub Refuses : ℕ → ℕ → Fault → Type 0
Refuses sets feeds (fault.OfFile file name f) = ⊥
Refuses sets feeds (fault.Refused line) = (sets < feeds) × (line ≡ crowd_line sets feeds)
Refuses sets feeds fault.Memory = sets < feeds

-- what running the feeds does
abbrev pub FeedsEnd : ℕ → List Agreements → List (List ℕ) → FolderSeen → FolderSeen → Result Outcome Fault → Type 0
FeedsEnd total sets names old new (Ok run) = ArePooled total sets names old new run.reports.items run.rest
FeedsEnd total sets names old new (Err f) = FeedsFail names old new f

-- what the files of a pool do
abbrev pub PoolFilesEnd : ℕ → List ℕ → List (List ℕ) → FolderSeen → FolderSeen → Result Outcome Fault → Type 0
PoolFilesEnd total terms_name names old new (Ok run) = HasPooled terms_name total names old new run.reports.items run.rest
PoolFilesEnd total terms_name names old new (Err f) = PoolCause terms_name names old new f

-- the first that is not Done: of the feeds' ends, of the sink
abbrev pub first_status : Status → Printed → Status
first_status status.Done printed.Cut = status.Write
first_status s p = s

abbrev pub status_at_end : FeedEnd → Printed → Status
status_at_end end p = first_status (status_of_end end) p
