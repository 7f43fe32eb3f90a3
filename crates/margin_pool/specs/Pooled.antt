-- The feeds of a pool: they are found in the order of the words, run, and handed back in that order.
use Rattle.std.specs.Prelude.{ℕ, ◌≡◌, ◌+◌, List, map}
use Rattle.mh_io.specs.Folder.{Reading, FolderSeen}
use Rattle.csa_terms.specs.Terms.{Agreements}
use Rattle.pool_gate.specs.declared.job.PoolReport.{PoolReport}
use Rattle.pool_gate.specs.PoolRun.{Fate, RanOver, all_tops, all_held}
use Rattle.feed_files.specs.CommandFiles.Files.{Did}
use Rattle.feed_files.specs.Fed as file
use Rattle.feed_files.specs.Fed.{EachFed}

-- The feed of this number and name was run: so much of it was taken, and all of it where it ended (*IsFed*). What became of its
-- lines is the written rule (*RanOver*), whatever the other feeds did.
abbrev pub IsFed : ℕ → ℕ → List Agreements → FolderSeen → FolderSeen → ℕ → List ℕ → Fate → Reading → Type 0
IsFed total tops sets old new feed name f reading = file.IsFed old new name (RanOver total tops sets feed f) f.report.end reading

-- All feeds were found, run at the same time, and handed back. What all sets hold and what is left add up to the total, and no
-- rest that was told as too little is less than the total less the most that all sets were told to hold.
pub record ArePooled (total : ℕ) (sets : List Agreements) (names : List (List ℕ)) (old new : FolderSeen) (reports : List PoolReport) (rest : ℕ) : Type 0 where
  pub fates : List Fate
  pub reported : map (λ f. f.report) fates ≡ reports
  pub readings : List Reading
  pub did : Did old new (record { names = names; readings = readings })
  pub feeds : EachFed (IsFed total (all_tops fates) sets old new) 0 names fates readings
  pub amounts : rest + all_held fates ≡ total
