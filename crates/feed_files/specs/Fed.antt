-- Feeds of a folder that were run, whatever on: they are found in the order of the words, run, and handed back in that order.
use Rattle.std.specs.Prelude.{ℕ, ◌≡◌, ◌+◌, ◌<◌, ◌≤◌, List, [], ◌∷◌, ◌++◌, length, Bool, true, Some, IfSome}
use Rattle.mh_io.specs.Faults.{Rises}
use Rattle.mh_io.specs.Folder.{Reading, FolderSeen, file_of}
use Rattle.mh_io.specs.Limits.{most_bytes}
use Rattle.feed_runs.specs.declared.feed_end.FeedEnd.{FeedEnd}
use Rattle.feed_runs.specs.declared.feed_end.FeedEnd.TheVariants as end_at

-- The feed of this name was run, and ended so: so much of it was taken, at most 33,554,433 bytes, and all of it where it ended.
-- Of these bytes Ran holds.
pub record IsFed (old new : FolderSeen) (name : List ℕ) (Ran : List ℕ → Bool → Type 0) (end : FeedEnd) (reading : Reading) : Type 0 where
  pub ended : Bool
  pub named : reading.name ≡ name
  pub few : length reading.taken ≤ most_bytes + 1
  pub front : IfSome old.told (λ t. (rest : List ℕ) × (file_of t.files name ≡ Some (reading.taken ++ rest)))
  pub all : ended ≡ true → IfSome old.told (λ t. file_of t.files name ≡ Some reading.taken)
  pub ran : Ran reading.taken ended
  pub whole : end ≡ end_at.End → ended ≡ true
  pub failed : end ≡ end_at.ReadFault → (0 < reading.faults) × Rises old.read_faults new.read_faults

-- the feeds of these names from this number on, each with what is told of it
abbrev pub EachFed : {R : Type 0} → (ℕ → List ℕ → R → Reading → Type 0) → ℕ → List (List ℕ) → List R → List Reading → Type 0
EachFed Fed from [] [] [] = Unit {0}
EachFed Fed from (name ∷ names) (r ∷ reports) (reading ∷ readings) = Fed from name r reading × EachFed Fed (from + 1) names reports readings
EachFed Fed from _ _ _ = ⊥
