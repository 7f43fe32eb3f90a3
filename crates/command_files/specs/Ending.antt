-- How a command ends before its work: at one fault, with the fault's status and its line.
use Rattle.std.specs.Prelude.{ℕ, ◌≡◌, List, []}
use Rattle.mh_io.specs.Sink.{SinkSeen}
use Rattle.command_files.specs.declared.status.Status.{Status}
use Rattle.command_files.specs.declared.status.Status.TheVariants as status
use Rattle.command_files.specs.declared.fault.InputFile.{InputFile}
use Rattle.command_files.specs.declared.fault.InputFile.TheVariants as input
use Rattle.command_files.specs.declared.fault.FileFault.TheVariants as why
use Rattle.command_files.specs.declared.fault.Fault.{Fault}
use Rattle.command_files.specs.declared.fault.Fault.TheVariants as fault
use Rattle.command_files.specs.Lines.{find_fault, read_fault, long_fault}
use Rattle.command_files.specs.Printed.{GotLine}

-- the status of a file that is too long or that its grammar refuses
abbrev pub status_of_refused : InputFile → Status
status_of_refused input.Params = status.Params
status_of_refused input.Crif = status.Terms
status_of_refused input.Terms = status.Terms
status_of_refused input.Feed = status.Feed
status_of_refused input.Candidate = status.Terms
status_of_refused input.Audit = status.Terms

-- the status of each fault
abbrev pub status_of : Fault → Status
status_of (fault.OfFile file name why.Missing) = status.Find
status_of (fault.OfFile file name why.Unread) = status.Read
status_of (fault.OfFile file name why.Long) = status_of_refused file
status_of (fault.OfFile file name (why.Refused line)) = status_of_refused file
status_of (fault.OfFile file name why.Memory) = status.Memory
status_of (fault.Refused line) = status.Terms
status_of fault.Memory = status.Memory

-- the one line that is printed at each fault; for want of memory none
abbrev pub line_of : Fault → List ℕ
line_of (fault.OfFile file name why.Missing) = find_fault name.now
line_of (fault.OfFile file name why.Unread) = read_fault name.now
line_of (fault.OfFile file name why.Long) = long_fault name.now
line_of (fault.OfFile file name (why.Refused line)) = line
line_of (fault.OfFile file name why.Memory) = []
line_of (fault.Refused line) = line
line_of fault.Memory = []

-- a fault came, with its cause in this command, its status and its line
pub record EndsAtFault (Cause : Fault → Type 0) (old new : SinkSeen) (s : Status) : Type 0 where
  pub f : Fault
  pub cause : Cause f
  pub status : status_of f ≡ s
  pub printed : GotLine old new (line_of f)
