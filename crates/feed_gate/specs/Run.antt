-- The report of a feed, and how a feed ends.
use Rattle.std.specs.Prelude.{◌≡◌, ℕ, ◌+◌, List, [], ◌∷◌, ◌++◌, length, Bool, Option, Some, None}
use Rattle.feed_events.specs.FeedReader.MhIo.Source.{SourceSeen}
use Rattle.feed_events.specs.FeedReader.MhIo.Lines as cut
use Rattle.feed_events.specs.FeedReader.MhIo.Lines.{lines}
use Rattle.feed_events.specs.FeedReader.MhIo.Lined.{Lined}
use Rattle.feed_events.specs.FeedReader.MhIo.declared.lines_answer.Supply.TheVariants as supply
use Rattle.feed_events.specs.FeedReader.MhIo.Limits.{most_bytes}
use Rattle.feed_events.specs.FeedReader.Feed as message
use Rattle.feed_events.specs.FeedReader.Feed.{Item, items_of, feed}
use Rattle.feed_events.specs.FeedReader.Answers.{ComesTo, ReadsFeed, GoesOn}
use Rattle.feed_gate.specs.declared.report.RefusedMessage.{RefusedMessage}
use Rattle.feed_runs.specs.declared.feed_end.FeedEnd.{FeedEnd}
use Rattle.feed_runs.specs.declared.feed_end.FeedEnd.TheVariants as end_at
use Rattle.feed_gate.specs.declared.report.FeedReport.{FeedReport}

-- nothing is done yet
abbrev pub no_report : FeedReport
no_report = record { done = 0; refused = []; end = end_at.End }

-- a message more: it made its call, or is refused
abbrev pub with_answer : FeedReport → Option RefusedMessage → FeedReport
with_answer r None = record r { done = r.done + 1 }
with_answer r (Some refused) = record r { refused = r.refused ++ refused ∷ [] }

-- an item was reported, or there was no memory in its line, and the report stands
abbrev pub Reports : FeedReport → FeedReport → ℕ → Option RefusedMessage → Option FeedEnd → Type 0
Reports old new line answer None = new ≡ with_answer old answer
Reports old new line answer (Some why) = (new ≡ old) × (why ≡ end_at.Memory line)

-- ---- from one moment to a later one

module _ {S : Type 0} (seen : S → SourceSeen) where
  -- why no item came any more behind these
  abbrev pub EndsAt : FeedEnd → Lined S → Lined S → List Item → Type 0
  EndsAt end_at.End first new items = ReadsFeed seen first new items message.Whole × (new.supply ≡ supply.Ended)
  EndsAt (end_at.Cut line) first new items = ReadsFeed seen first new items (message.Cut line) × (new.supply ≡ supply.Ended)
  EndsAt (end_at.LineLong line) first new items = ReadsFeed seen first new items (message.LineLong line)
  EndsAt (end_at.TooLong taken) first new items = ReadsFeed seen first new items message.TooLong × (taken ≡ most_bytes + 1)
  EndsAt end_at.ReadFault first new items = ReadsFeed seen first new items message.Open × (new.supply ≡ supply.Failed)
  EndsAt (end_at.Memory line) first new items = ComesTo seen first new items line

-- ---- from the first byte to the last

-- Want of memory at this line. The lines before it, as a feed of their own, are just the items that were met, each whole;
-- it is one of the lines that were taken, if any bytes were; and every further item begins in it or behind it.
pub record BreaksAt (line : ℕ) (items : List Item) (taken : List ℕ) (ended : Bool) : Type 0 where
  pub before : List (List ℕ)
  pub behind : List (List ℕ)
  pub lines : (lines taken ended).lines ≡ before ++ behind
  pub number : line ≡ length before + 1
  pub whole : items_of 1 0 before cut.Whole ≡ record { items = items; stop = message.Whole }
  pub there : behind ≡ [] → taken ≡ []
  pub rest : GoesOn items line (feed taken ended).items

-- The items that were met are those of the feed grammar, and the end is the way in which the bytes stop. For want of
-- memory they are those before a line.
abbrev pub IsEnd : FeedEnd → List Item → List ℕ → Bool → Type 0
IsEnd end_at.End items taken ended = feed taken ended ≡ record { items = items; stop = message.Whole }
IsEnd (end_at.Cut line) items taken ended = feed taken ended ≡ record { items = items; stop = message.Cut line }
IsEnd (end_at.LineLong line) items taken ended = feed taken ended ≡ record { items = items; stop = message.LineLong line }
IsEnd (end_at.TooLong most) items taken ended = (feed taken ended ≡ record { items = items; stop = message.TooLong }) × (most ≡ most_bytes + 1)
IsEnd end_at.ReadFault items taken ended = feed taken ended ≡ record { items = items; stop = message.Open }
IsEnd (end_at.Memory line) items taken ended = BreaksAt line items taken ended
