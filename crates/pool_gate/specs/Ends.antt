-- How a feed on a pool ends.
use Rattle.std.specs.Prelude.{◌≡◌, ℕ, ◌+◌, ◌<◌, List, ◌++◌, length, Bool}
use Rattle.mh_io.specs.Source.{SourceSeen}
use Rattle.mh_io.specs.Lines as cut
use Rattle.mh_io.specs.Lines.{lines}
use Rattle.mh_io.specs.Lined.{Lined, IsStopped}
use Rattle.mh_io.specs.Limits.{most_bytes}
use Rattle.mh_io.specs.declared.lines_answer.LineFault.{LineFault}
use Rattle.mh_io.specs.declared.lines_answer.LineFault.TheVariants as fault
use Rattle.feed_runs.specs.declared.feed_end.FeedEnd.{FeedEnd}
use Rattle.feed_runs.specs.declared.feed_end.FeedEnd.TheVariants as end_of
use Rattle.pool_feed.specs.declared.next.FedLine.{FedLine}
use Rattle.pool_feed.specs.Items.{items_of}
use Rattle.pool_feed.specs.Answers.{Told, ComesTo}

-- at a fault behind so many lines
abbrev pub end_at : LineFault → ℕ → FeedEnd
end_at fault.ReadFault given = end_of.ReadFault
end_at fault.LineLong given = end_of.LineLong (given + 1)
end_at (fault.TooLong taken) given = end_of.TooLong taken
end_at fault.Memory given = end_of.Memory (given + 1)

-- ---- from one moment to a later one

module _ {S : Type 0} (seen : S → SourceSeen) where
  -- these items were told, and no more comes
  abbrev pub EndsAt : FeedEnd → Lined S → Lined S → List FedLine → Type 0
  EndsAt end_of.End first new items = Told seen first new items × IsStopped new cut.Whole
  EndsAt (end_of.Cut line) first new items = ⊥
  EndsAt (end_of.LineLong line) first new items = Told seen first new items × IsStopped new cut.Long × (line ≡ new.given + 1)
  EndsAt (end_of.TooLong taken) first new items = Told seen first new items × IsStopped new cut.Over × (taken ≡ most_bytes + 1)
  EndsAt end_of.ReadFault first new items = Told seen first new items × IsStopped new cut.Open
  EndsAt (end_of.Memory line) first new items = ComesTo seen first new items line

-- ---- from the first byte to the last

-- the items are those of all lines, which stop in this way
pub record StopsSo (stop : cut.Stop) (items : List FedLine) (taken : List ℕ) (ended : Bool) : Type 0 where
  pub are : items_of 1 (lines taken ended).lines ≡ items
  pub stops : (lines taken ended).stop ≡ stop

-- want of memory at this line, which is one of those that were taken: the items are those of the lines before it
pub record BreaksAt (line : ℕ) (items : List FedLine) (taken : List ℕ) (ended : Bool) : Type 0 where
  pub before : List (List ℕ)
  pub behind : List (List ℕ)
  pub lines : (lines taken ended).lines ≡ before ++ behind
  pub number : line ≡ length before + 1
  pub are : items_of 1 before ≡ items
  pub there : 0 < length behind

-- The items that were met are those of the lines of the bytes that were taken, and the end is the way in which these stop. For
-- want of memory they are those before a line.
abbrev pub IsEnd : FeedEnd → List FedLine → List ℕ → Bool → Type 0
IsEnd end_of.End items taken ended = StopsSo cut.Whole items taken ended
IsEnd (end_of.Cut line) items taken ended = ⊥
IsEnd (end_of.LineLong line) items taken ended = StopsSo cut.Long items taken ended × (line ≡ length (lines taken ended).lines + 1)
IsEnd (end_of.TooLong most) items taken ended = StopsSo cut.Over items taken ended × (most ≡ most_bytes + 1)
IsEnd end_of.ReadFault items taken ended = StopsSo cut.Open items taken ended
IsEnd (end_of.Memory line) items taken ended = BreaksAt line items taken ended
