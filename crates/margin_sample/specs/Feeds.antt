-- The feeds of a sample before they run, and that each ran to its end.
use Rattle.std.specs.Prelude.{◌≡◌, ℕ, ◌+◌, ◌<◌, List, [], ◌∷◌, Bool, true, false}
use Rattle.mh_io.specs.Memory.{MemorySource}
use Rattle.feed_gate.specs.FeedReader.Feed.{Whole, feed}
use Rattle.feed_runs.specs.declared.feed_end.FeedEnd.{FeedEnd}
use Rattle.feed_runs.specs.declared.feed_end.FeedEnd.TheVariants as end_at
use Rattle.house_sample.specs.Feeds.{messages_of}

-- a source of which nothing was taken, whose bytes are the messages of the feed of this number
pub record IsFeed (seed number : ℕ) (source : MemorySource) : Type 0 where
  pub few : number < 32
  pub reads : feed source.left true ≡ record { items = messages_of seed number; stop = Whole }

-- the feeds of the numbers from this one on
abbrev pub AreFeeds : ℕ → ℕ → List MemorySource → Type 0
AreFeeds seed number [] = Unit {0}
AreFeeds seed number (source ∷ sources) = IsFeed seed number source × AreFeeds seed (number + 1) sources

abbrev pub is_whole : FeedEnd → Bool
is_whole end_at.End = true
is_whole _ = false
