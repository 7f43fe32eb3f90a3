-- What a command comes to that has to succeed.
use Rattle.command_files.specs.declared.status.Status.{Status}
use Rattle.command_files.specs.declared.status.Status.TheVariants as status

-- all of it is printed, or memory ran out
abbrev pub EndsWell : Status → Type 0
EndsWell status.Done = Unit {0}
EndsWell status.Memory = Unit {0}
EndsWell _ = ⊥
