-- Sources of files: found in the order of their names, and handed back in that order.
use Rattle.std.specs.Prelude.{ℕ, ◌≡◌, ◌+◌, ◌<◌, ◌≤◌, List, [], ◌∷◌, length, IfSome, Option}
use Rattle.std.specs.List.{AllByRecursion, AllZip}
use Rattle.mh_io.specs.Faults.{Rises}
use Rattle.mh_io.specs.Source.{SourceSeen}
use Rattle.mh_io.specs.Folder.{Telling, FolderSeen, IsFound, told_after_done}
use Rattle.command_files.specs.Files.{Did}

-- a source of the file of this name that gave nothing and met no fault
pub record IsFresh (folder : FolderSeen) (name : List ℕ) (s : SourceSeen) : Type 0 where
  pub clean : s.faults ≡ 0
  pub found : IfSome folder.told (λ t. IsFound t.files name s)

-- all these files were found
pub record FindsAll (old new : FolderSeen) (names : List (List ℕ)) (sources : List SourceSeen) : Type 0 where
  pub did : Did old new (record { names = names; readings = [] })
  pub finds : old.find_faults ≤ new.find_faults
  pub reads : new.read_faults ≡ old.read_faults
  pub due : new.due ≡ old.due + length sources
  pub each : AllZip (IsFresh old) names sources

-- what a folder tells after these sources came back, one after another
abbrev pub told_after_all : Option Telling → List SourceSeen → Option Telling
told_after_all told [] = told
told_after_all told (s ∷ sources) = told_after_all (told_after_done told s.name s.gave s.faults) sources

-- all these sources came back
pub record TakesAllBack (old new : FolderSeen) (sources : List SourceSeen) : Type 0 where
  pub told : new.told ≡ told_after_all old.told sources
  pub finds : new.find_faults ≡ old.find_faults
  pub count : old.read_faults ≤ new.read_faults
  pub rises : AllByRecursion (λ s. 0 < s.faults → Rises old.read_faults new.read_faults) sources
  pub due : new.due + length sources ≡ old.due
