-- Feeds that weren't run, since one of them wasn't found or memory ran out.
use Rattle.std.specs.Prelude.{ℕ, ◌≡◌, List, [], ◌∷◌, ◌++◌, map}
use Rattle.mh_io.specs.Folder.{Reading, FolderSeen}
use Rattle.command_files.specs.declared.fault.FileFault.{FileFault}
use Rattle.command_files.specs.declared.fault.InputFile.TheVariants as input
use Rattle.command_files.specs.declared.fault.Fault.{Fault}
use Rattle.command_files.specs.declared.fault.Fault.TheVariants as fault
use Rattle.command_files.specs.Files.{Deeds, Did, FindEnds}

-- a file that was found and handed back, and of which nothing was taken
abbrev pub untouched : List ℕ → Reading
untouched name = record { name = name; taken = []; faults = 0 }

abbrev pub handed_back : List (List ℕ) → Deeds
handed_back names = record { names = names; readings = map untouched names }

-- the feed of this name wasn't found, and those before it were handed back
pub record FeedMissing (words : List (List ℕ)) (old new : FolderSeen) (name : List ℕ) (why : FileFault) : Type 0 where
  pub before : List (List ℕ)
  pub behind : List (List ℕ)
  pub words_are : words ≡ before ++ name ∷ behind
  pub missing : FindEnds old new (handed_back before) name why

-- memory ran out, and those that had been found were handed back
pub record FeedsStarve (words : List (List ℕ)) (old new : FolderSeen) : Type 0 where
  pub before : List (List ℕ)
  pub behind : List (List ℕ)
  pub words_are : words ≡ before ++ behind
  pub did : Did old new (handed_back before)

-- why no feed was run
abbrev pub FeedsFail : List (List ℕ) → FolderSeen → FolderSeen → Fault → Type 0
FeedsFail words old new (fault.OfFile input.Feed name f) = FeedMissing words old new name.now f
FeedsFail words old new (fault.OfFile _ name f) = ⊥
FeedsFail words old new (fault.Refused line) = ⊥
FeedsFail words old new fault.Memory = FeedsStarve words old new
