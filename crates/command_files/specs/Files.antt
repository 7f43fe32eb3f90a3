-- What a command does to a folder: the names that it asks for, and the readings of files that it adds.
use Rattle.std.specs.Prelude.{ℕ, ◌≡◌, ◌+◌, ◌<◌, ◌≤◌, List, [], ◌∷◌, ◌++◌, length, Some, IfSome, option_map, ◌⊎◌, Result, Ok, Err}
use Rattle.mh_io.specs.Faults.{Rises}
use Rattle.mh_io.specs.Folder.{Telling, Reading, FolderSeen, file_of}
use Rattle.mh_io.specs.Limits.{most_bytes}
use Rattle.command_files.specs.declared.fault.FileFault.{FileFault}
use Rattle.command_files.specs.declared.fault.FileFault.TheVariants as why

-- no count of faults fell, and as many sources are out as before
pub record KeepsCounts (old new : FolderSeen) : Type 0 where
  pub finds : old.find_faults ≤ new.find_faults
  pub reads : old.read_faults ≤ new.read_faults
  pub due : new.due ≡ old.due

-- names that a folder was asked for, and readings of its files
pub record Deeds : Type 0 where
  pub names : List (List ℕ)
  pub readings : List Reading

abbrev pub no_deeds : Deeds
no_deeds = record { names = []; readings = [] }

-- a file was found, and so much of it was taken, with so many faults
abbrev pub with_reading : Deeds → List ℕ → List ℕ → ℕ → Deeds
with_reading deeds name taken faults = record {
  names = deeds.names ++ name ∷ [];
  readings = deeds.readings ++ record { name = name; taken = taken; faults = faults } ∷ [];
}

-- a name was asked for, and nothing was read
abbrev pub with_name : Deeds → List ℕ → Deeds
with_name deeds name = record deeds { names = deeds.names ++ name ∷ [] }

abbrev pub told_after : Deeds → Telling → Telling
told_after deeds t = record t { asked = t.asked ++ deeds.names; reads = t.reads ++ deeds.readings }

-- where the folder tells of itself, this is all that was done to it
abbrev pub Did : FolderSeen → FolderSeen → Deeds → Type 0
Did old new deeds = new.told ≡ option_map (told_after deeds) old.told

-- the bytes are the whole file of this name, where the folder tells its files
pub record IsWhole (folder : FolderSeen) (name bytes : List ℕ) : Type 0 where
  pub whole : IfSome folder.told (λ t. file_of t.files name ≡ Some bytes)
  pub few : length bytes ≤ most_bytes

-- the bytes are the front of a file that is too long
pub record IsTooLong (folder : FolderSeen) (name taken : List ℕ) : Type 0 where
  pub front : IfSome folder.told (λ t. (rest : List ℕ) × (file_of t.files name ≡ Some (taken ++ rest)))
  pub many : length taken ≡ most_bytes + 1

-- a file was asked for, and isn't there or couldn't be opened
pub record IsMissing (old new : FolderSeen) (before : Deeds) (name : List ℕ) : Type 0 where
  pub did : Did old new (with_name before name)
  pub rose : Rises old.find_faults new.find_faults

-- a file couldn't be read to its end
pub record IsUnread (old new : FolderSeen) (before : Deeds) (name : List ℕ) : Type 0 where
  pub taken : List ℕ
  pub faults : ℕ
  pub did : Did old new (with_reading before name taken faults)
  pub failed : 0 < faults
  pub rose : Rises old.read_faults new.read_faults

-- a file is longer than any that is read
pub record IsLong (old new : FolderSeen) (before : Deeds) (name : List ℕ) : Type 0 where
  pub taken : List ℕ
  pub faults : ℕ
  pub did : Did old new (with_reading before name taken faults)
  pub long : IsTooLong old name taken

-- a file was read whole, and its bytes are so
pub record IsRead (old new : FolderSeen) (before : Deeds) (name : List ℕ) (AreSo : List ℕ → Type 0) : Type 0 where
  pub bytes : List ℕ
  pub faults : ℕ
  pub did : Did old new (with_reading before name bytes faults)
  pub whole : IsWhole old name bytes
  pub so : AreSo bytes

-- a file was found, and so much of it was taken before it was handed back
pub record IsTaken (old new : FolderSeen) (before : Deeds) (name : List ℕ) : Type 0 where
  pub taken : List ℕ
  pub faults : ℕ
  pub did : Did old new (with_reading before name taken faults)

-- memory ran out: before the file was asked for, or after it was found, and then it was handed back
abbrev pub IsCutShort : FolderSeen → FolderSeen → Deeds → List ℕ → Type 0
IsCutShort old new before name = Did old new before ⊎ IsTaken old new before name

-- why a file gave nothing after what was done before, where Refuses says which bytes have no value, and the line that tells why
abbrev pub NoValue : FolderSeen → FolderSeen → Deeds → List ℕ → (List ℕ → List ℕ → Type 0) → FileFault → Type 0
NoValue old new before name Refuses why.Missing = IsMissing old new before name
NoValue old new before name Refuses why.Unread = IsUnread old new before name
NoValue old new before name Refuses why.Long = IsLong old new before name
NoValue old new before name Refuses (why.Refused line) = IsRead old new before name (λ bytes. Refuses bytes line)
NoValue old new before name Refuses why.Memory = IsCutShort old new before name

-- what reading a file by its grammar does: a value that its bytes have, or why there is none
abbrev pub ValueEnds : {A : Type 0} → (List ℕ → A → Type 0) → (List ℕ → List ℕ → Type 0) → FolderSeen → FolderSeen → List ℕ → Result A FileFault → Type 0
ValueEnds Has Refuses old new name (Ok value) = IsRead old new no_deeds name (λ bytes. Has bytes value)
ValueEnds Has Refuses old new name (Err f) = NoValue old new no_deeds name Refuses f

-- no bytes are refused
abbrev pub RefusesNone : List ℕ → List ℕ → Type 0
RefusesNone bytes line = ⊥

-- what reading a whole file does: its bytes, or why there are none
abbrev pub FileEnds : FolderSeen → FolderSeen → List ℕ → Result (List ℕ) FileFault → Type 0
FileEnds old new name result = ValueEnds (λ read bytes. read ≡ bytes) RefusesNone old new name result

-- what finding a file does where no source of it comes, after what was done before: it is missing, or memory ran out
abbrev pub FindEnds : FolderSeen → FolderSeen → Deeds → List ℕ → FileFault → Type 0
FindEnds old new before name why.Missing = IsMissing old new before name
FindEnds old new before name why.Unread = ⊥
FindEnds old new before name why.Long = ⊥
FindEnds old new before name (why.Refused line) = ⊥
FindEnds old new before name why.Memory = Did old new before
