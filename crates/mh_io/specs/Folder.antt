-- What is seen of a folder: what it tells of its files, of the names that it was asked for and of the reads of its
-- sources, and its counts. What finding a file and taking its source back do.
use Rattle.std.specs.Prelude.{◌≡◌, ℕ, ◌+◌, ◌≤◌, List, [], ◌∷◌, ◌++◌, Option, Some, None, Result, Ok, Err, find, IsSome, IfOk, IfSome, option_map, bytes_eq}
use Rattle.mh_io.specs.Faults.{IsCount, Rises, added_faults}
use Rattle.mh_io.specs.Source.{SourceSeen}
use Rattle.mh_io.specs.declared.folder.FindRefused.{FindRefused}
use Rattle.mh_io.specs.declared.folder.FindRefused.TheVariants.{Failed, Memory}

-- a file: its name, and its whole bytes
pub record File : Type 0 where
  pub name : List ℕ
  pub bytes : List ℕ

-- a source that was handed back: the file's name, the bytes that were taken, and the source's count of faults
pub record Reading : Type 0 where
  pub name : List ℕ
  pub taken : List ℕ
  pub faults : ℕ

-- all that a folder tells, with names and reads in the order in which they came
pub record Telling : Type 0 where
  pub files : List File
  pub asked : List (List ℕ)
  pub reads : List Reading

-- the whole bytes of the file of this name, if there is one
abbrev pub file_of : List File → List ℕ → Option (List ℕ)
file_of files name = option_map (λ f. f.bytes) (find (λ f. bytes_eq f.name name) files)

-- the folder was asked for one more name
abbrev pub with_asked : List ℕ → Telling → Telling
with_asked name folder = record folder { asked = folder.asked ++ name ∷ [] }

-- one more source was handed back to the folder
abbrev pub with_read : Reading → Telling → Telling
with_read reading folder = record folder { reads = folder.reads ++ reading ∷ [] }

-- what a folder tells after a find: every find but one that wants memory adds its name
abbrev pub told_after_find : {S : Type 0} → Result S FindRefused → List ℕ → Option Telling → Option Telling
told_after_find (Ok _) name told = option_map (with_asked name) told
told_after_find (Err Failed) name told = option_map (with_asked name) told
told_after_find (Err Memory) _ told = told

-- how many sources are out after a find: one more where one was found
abbrev pub due_after_find : {S : Type 0} → Result S FindRefused → ℕ → ℕ
due_after_find (Ok _) due = due + 1
due_after_find (Err _) due = due

-- a source that was found: it has this name, gave nothing, and has left the whole bytes of the file, which is there
pub record IsFound (files : List File) (name : List ℕ) (source : SourceSeen) : Type 0 where
  pub named : source.name ≡ Some name
  pub fresh : source.gave ≡ Some []
  pub whole : source.left ≡ file_of files name
  pub there : IsSome source.left

-- what a folder tells after a source of this name, that gave these bytes, came back: it tells on only of one that tells
abbrev pub told_after_done : Option Telling → Option (List ℕ) → Option (List ℕ) → ℕ → Option Telling
told_after_done None _ _ _ = None
told_after_done (Some folder) (Some name) (Some taken) faults = Some (with_read (record { name = name; taken = taken; faults = faults }) folder)
told_after_done (Some _) (Some _) None _ = None
told_after_done (Some _) None _ _ = None

-- all that a folder tells, where it tells it, its counts of faults at finds and in the sources that came back, and how
-- many sources are out
pub record FolderSeen : Type 0 where
  pub told : Option Telling
  pub find_faults : ℕ
  pub read_faults : ℕ
  pub due : ℕ

-- one find: a source of this file is out that met no fault, or a fault was met, or memory ran out
pub record Finds {S : Type 0} (seen : S → SourceSeen) (old new : FolderSeen) (name : List ℕ) (result : Result S FindRefused) : Type 0 where
  pub count : old.find_faults ≤ new.find_faults
  pub counted : IsCount new.find_faults
  pub reads_stand : new.read_faults ≡ old.read_faults
  pub reads_counted : IsCount new.read_faults
  pub due : new.due ≡ due_after_find result old.due
  pub told : new.told ≡ told_after_find result name old.told
  pub clean : IfOk result (λ source. (seen source).faults ≡ 0)
  pub found : IfOk result (λ source. IfSome old.told (λ folder. IsFound folder.files name (seen source)))
  pub failed : result ≡ Err Failed → Rises old.find_faults new.find_faults

-- a source came back, and its faults are counted
pub record TakesBack (old new : FolderSeen) (source : SourceSeen) : Type 0 where
  pub finds_stand : new.find_faults ≡ old.find_faults
  pub finds_counted : IsCount new.find_faults
  pub count : old.read_faults ≤ new.read_faults
  pub counted : IsCount new.read_faults
  pub rises : new.read_faults ≡ added_faults old.read_faults source.faults
  pub due : new.due + 1 ≡ old.due
  pub told : new.told ≡ told_after_done old.told source.name source.gave source.faults
