-- Sources of feeds that were run, whatever on.
use Rattle.std.specs.Prelude.{◌≡◌, ℕ, ◌+◌, ◌≤◌, List, [], ◌∷◌, length, Bool, true}
use Rattle.std.specs.Io.KnownBytes.{IsAtEnd}
use Rattle.mh_io.specs.Source.{SourceSeen, Takes}
use Rattle.mh_io.specs.Faults.{Rises}
use Rattle.mh_io.specs.Limits.{most_bytes}
use Rattle.feed_runs.specs.declared.feed_end.FeedEnd.{FeedEnd}
use Rattle.feed_runs.specs.declared.feed_end.FeedEnd.TheVariants as end_at

-- A source that was run: of the bytes that were taken from it, all where it ended, and no more than 33,554,433, Ran holds; it
-- ended whole only where all were taken, and failed only where a fault was met.
pub record RanFrom {S : Type 0} (seen : S → SourceSeen) (Ran : List ℕ → Bool → Type 0) (end : FeedEnd) (old new : S) : Type 0 where
  pub taken : List ℕ
  pub ended : Bool
  pub takes : Takes (seen old) (seen new) taken
  pub few : length taken ≤ most_bytes + 1
  pub count : (seen old).faults ≤ (seen new).faults
  pub named : (seen new).name ≡ (seen old).name
  pub ran : Ran taken ended
  pub at_end : ended ≡ true → IsAtEnd (seen new).left
  pub whole : end ≡ end_at.End → ended ≡ true
  pub failed : end ≡ end_at.ReadFault → Rises (seen old).faults (seen new).faults

-- each source was run, with what is told of it, as the feed of the next number
abbrev pub EachRan : {S R : Type 0} → (ℕ → S → S → R → Type 0) → ℕ → List S → List S → List R → Type 0
EachRan Ran from [] [] [] = Unit {0}
EachRan Ran from (old ∷ olds) (new ∷ news) (r ∷ reports) = Ran from old new r × EachRan Ran (from + 1) olds news reports
EachRan Ran from _ _ _ = ⊥
