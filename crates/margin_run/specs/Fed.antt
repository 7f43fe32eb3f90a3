-- The feeds of a run: they are found in the order of the words, run, and handed back in that order.
use Rattle.std.specs.Prelude.{ℕ, List, length}
use Rattle.std.specs.List.{AllZip}
use Rattle.mh_io.specs.Folder.{Reading, FolderSeen}
use Rattle.feed_gate.specs.SetCore.Set.{Set}
use Rattle.feed_gate.specs.declared.report.FeedReport.{FeedReport}
use Rattle.feed_gate.specs.SetsRun.{IsRun, RanOver}
use Rattle.feed_files.specs.CommandFiles.Files.{Did}
use Rattle.feed_files.specs.Fed as file
use Rattle.feed_files.specs.Fed.{EachFed}

-- The feed of this number and name was run: so much of it was taken, and all of it where it ended (*IsFed*). What became of its
-- items is the written rule (*RanOver*): the journal of each set holds its calls on that set, in its order, whatever the other
-- feeds did.
abbrev pub IsFed : FolderSeen → FolderSeen → List Set → ℕ → List ℕ → FeedReport → Reading → Type 0
IsFed old new sets feed name r reading = file.IsFed old new name (λ taken ended. RanOver feed taken ended sets r) r.end reading

-- the feeds of these names from this number on
abbrev pub AllFed : FolderSeen → FolderSeen → List Set → ℕ → List (List ℕ) → List FeedReport → List Reading → Type 0
AllFed old new sets from names reports readings = EachFed (IsFed old new sets) from names reports readings

-- All feeds were found, run at the same time, and handed back. Each set has one journal, which is legal: each reply is the
-- answer of the written rule, from scratch, over the entries before it; and all its entries are of these feeds.
pub record AreFed (names : List (List ℕ)) (old new : FolderSeen) (old_sets new_sets : List Set) (reports : List FeedReport) : Type 0 where
  pub readings : List Reading
  pub did : Did old new (record { names = names; readings = readings })
  pub sets : AllZip (IsRun (length names)) old_sets new_sets
  pub feeds : AllFed old new new_sets 0 names reports readings
