-- The number of each status, with which the process ends.
use Rattle.std.specs.Prelude.{ℕ}
use Rattle.command_files.specs.declared.status.Status.{Status}
use Rattle.command_files.specs.declared.status.Status.TheVariants as status

abbrev pub status_code : Status → ℕ
status_code status.Done = 0
status_code status.Words = 2
status_code status.Params = 3
status_code status.Terms = 4
status_code status.Find = 5
status_code status.Feed = 6
status_code status.Read = 7
status_code status.Write = 8
status_code status.Memory = 9
status_code status.Desk = 10
status_code status.Wrong = 11
