-- How feeds ended, as a status of their command.
use Rattle.std.specs.Prelude.{List, [], ◌∷◌}
use Rattle.feed_runs.specs.declared.feed_end.FeedEnd.{FeedEnd}
use Rattle.feed_runs.specs.declared.feed_end.FeedEnd.TheVariants as end_at
use Rattle.command_files.specs.declared.status.Status.{Status}
use Rattle.command_files.specs.declared.status.Status.TheVariants as status

-- the status of a feed's end where all is printed
abbrev pub status_of_end : FeedEnd → Status
status_of_end end_at.End = status.Done
status_of_end (end_at.Cut line) = status.Feed
status_of_end (end_at.LineLong line) = status.Feed
status_of_end (end_at.TooLong taken) = status.Feed
status_of_end end_at.ReadFault = status.Read
status_of_end (end_at.Memory line) = status.Memory

-- how the first feed ended that didn't end whole, or that all did
abbrev pub first_end : List FeedEnd → FeedEnd
first_end [] = end_at.End
first_end (end_at.End ∷ ends) = first_end ends
first_end (end ∷ ends) = end
