-- What calls for the next line of a pool's feed tell.
use Rattle.std.specs.Prelude.{◌≡◌, ℕ, ◌+◌, ◌<◌, List, [], ◌∷◌, ◌++◌, length, Option, Some, None, Result, Ok, Err}
use Rattle.feed_reader.specs.MhIo.Source.{SourceSeen}
use Rattle.feed_reader.specs.MhIo.Lines as cut
use Rattle.feed_reader.specs.MhIo.Lined.{Lined, Gave, IsStopped, lines_now}
use Rattle.feed_reader.specs.MhIo.Limits.{most_bytes}
use Rattle.feed_reader.specs.MhIo.declared.lines_answer.LineFault.{LineFault}
use Rattle.feed_reader.specs.MhIo.declared.lines_answer.LineFault.TheVariants.{ReadFault, LineLong, TooLong, Memory}
use Rattle.pool_feed.specs.declared.next.FedLine.{FedLine}
use Rattle.pool_feed.specs.Items.{items_of}

module _ {S : Type 0} (seen : S → SourceSeen) where
  -- the lines that were given are just these items, and lines that are passed over
  pub record Told (old new : Lined S) (items : List FedLine) : Type 0 where
    pub given : List (List ℕ)
    pub lines : Gave seen old new given
    pub are : items_of (old.given + 1) given ≡ items

  -- Behind these items this line was come to: the lines that were given before it are just the items, and lines that are
  -- passed over. The line itself was given, or waits to be given next.
  pub record ComesTo (old new : Lined S) (items : List FedLine) (line : ℕ) : Type 0 where
    pub before : List (List ℕ)
    pub its : List (List ℕ)
    pub lines : Gave seen old new (before ++ its)
    pub are : items_of (old.given + 1) before ≡ items
    pub number : line ≡ old.given + length before + 1
    pub there : 0 < length (its ++ (lines_now new).lines)

  -- no item came, and the lines stopped in this way for good
  abbrev pub Stops : Lined S → Lined S → cut.Stop → Type 0
  Stops old new stop = Told old new [] × IsStopped new stop

  -- an item, or the way in which the lines stopped, or no memory at the line that was to be given next
  abbrev pub Answers : Lined S → Lined S → Result (Option FedLine) LineFault → Type 0
  Answers old new (Ok (Some item)) = Told old new (item ∷ []) × ComesTo old new [] item.line × (item.line ≡ new.given)
  Answers old new (Ok None) = Stops old new cut.Whole
  Answers old new (Err ReadFault) = Stops old new cut.Open
  Answers old new (Err LineLong) = Stops old new cut.Long
  Answers old new (Err (TooLong taken)) = Stops old new cut.Over × (taken ≡ most_bytes + 1)
  Answers old new (Err Memory) = ComesTo old new [] (new.given + 1)
