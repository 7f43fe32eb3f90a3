-- What a call for the next message answers.
use Rattle.std.specs.Prelude.{◌≡◌, ℕ, ◌+◌, ◌<◌, ◌≤◌, List, [], ◌∷◌, ◌++◌, length, Bool, Option, Some, None, Result, Ok, Err}
use Rattle.std.specs.List.{AllByRecursion}
use Rattle.mh_io.specs.Source.{SourceSeen}
use Rattle.mh_io.specs.Lines as cut
use Rattle.mh_io.specs.Lined.{Lined, CanCome, Took, Gave, IsStopped, is_ended, lines_with, lines_now}
use Rattle.mh_io.specs.Limits.{most_bytes}
use Rattle.feed_reader.specs.declared.message.Fed.{Fed}
use Rattle.feed_reader.specs.declared.fault.FeedFault.{FeedFault}
use Rattle.feed_reader.specs.declared.fault.FeedFault.TheVariants as fault
use Rattle.feed_reader.specs.Feed.{Item, Sent, BadAt, FeedStop, Whole, Cut, LineLong, TooLong, Open, FeedRun, AreItems, line_of, no_items, items_from}
use Rattle.feed_reader.specs.Line.{IsBegun}

-- the items that come, once these bytes are taken too
abbrev pub feed_with : {S : Type 0} → Lined S → List ℕ → Bool → FeedRun
feed_with held later ended = items_from (held.given + 1) (lines_with held later ended)

-- these items, and then only such as begin in this line or behind it
abbrev pub GoesOn : List Item → ℕ → List Item → Type 0
GoesOn told line items = (rest : List Item) × (items ≡ told ++ rest) × AllByRecursion (λ item. line ≤ line_of item) rest

module _ {S : Type 0} (seen : S → SourceSeen) where
  -- these items were told: the lines that were given are these items, whatever is taken later
  pub record TellsItems (old new : Lined S) (told : List Item) : Type 0 where
    pub given : List (List ℕ)
    pub lines : Gave seen old new given
    pub items : AreItems (old.given + 1) given told

  -- Behind these items this line was come to. The lines that were given before it are just the items, each whole, and
  -- lines that are passed over. The line itself was given, or waits to be given next; no further item begins before it,
  -- whatever is taken later.
  pub record ComesTo (old new : Lined S) (told : List Item) (line : ℕ) : Type 0 where
    pub before : List (List ℕ)
    pub its : List (List ℕ)
    pub lines : Gave seen old new (before ++ its)
    pub items : AreItems (old.given + 1) before told
    pub number : line ≡ old.given + length before + 1
    pub there : 0 < length (its ++ (lines_now new).lines)
    pub feed : (later : List ℕ) (ended : Bool) → CanCome new.supply later ended → GoesOn told line (feed_with old (lines.taken ++ later) ended).items

  -- this item was told, behind lines that are passed over: the lines that were given from its first on are the item
  pub record TellsItem (old new : Lined S) (item : Item) : Type 0 where
    pub comes : ComesTo old new [] (line_of item)
    pub whole : AreItems (line_of item) comes.its (item ∷ [])

  -- There was no memory at this line, behind lines that are passed over: the lines that were given from there on are a
  -- front of the message that begins in it, or none, and then it is the next to be given.
  pub record BreaksOff (old new : Lined S) (line : ℕ) : Type 0 where
    pub comes : ComesTo old new [] line
    pub begun : IsBegun comes.its

  -- no item came any more, and what was taken stops in this way
  pub record TellsStop (old new : Lined S) (stop : FeedStop) : Type 0 where
    pub taken : List ℕ
    pub took : Took seen old new taken
    pub feed : feed_with old taken (is_ended new.supply) ≡ no_items stop

  -- all calls up to the one at which the feed stops told these items
  pub record ReadsFeed (old new : Lined S) (items : List Item) (stop : FeedStop) : Type 0 where
    pub taken : List ℕ
    pub took : Took seen old new taken
    pub feed : feed_with old taken (is_ended new.supply) ≡ record { items = items; stop = stop }

  -- what this call told together with all calls before it, from the first on
  abbrev pub Follows : Lined S → Lined S → List Item → Result (Option Fed) FeedFault → Type 0
  Follows first new told (Ok (Some fed)) = TellsItems first new (told ++ Sent fed ∷ []) × ComesTo first new told fed.line
  Follows first new told (Ok None) = ReadsFeed first new told Whole
  Follows first new told (Err (fault.BadLine line)) = TellsItems first new (told ++ BadAt line ∷ []) × ComesTo first new told line
  Follows first new told (Err (fault.Cut line)) = ReadsFeed first new told (Cut line)
  Follows first new told (Err (fault.LineLong line)) = ReadsFeed first new told (LineLong line)
  Follows first new told (Err (fault.TooLong taken)) = ReadsFeed first new told TooLong
  Follows first new told (Err fault.ReadFault) = ReadsFeed first new told Open
  Follows first new told (Err (fault.Memory line)) = ComesTo first new told line

  -- the next item, or the way in which the feed stops
  abbrev pub Answers : Lined S → Lined S → Result (Option Fed) FeedFault → Type 0
  Answers old new (Ok (Some fed)) = TellsItem old new (Sent fed)
  Answers old new (Ok None) = TellsStop old new Whole
  Answers old new (Err (fault.BadLine line)) = TellsItem old new (BadAt line)
  Answers old new (Err (fault.Cut line)) = TellsStop old new (Cut line)
  Answers old new (Err (fault.LineLong line)) = TellsStop old new (LineLong line)
  Answers old new (Err (fault.TooLong taken)) = TellsStop old new TooLong × (taken ≡ most_bytes + 1)
  Answers old new (Err fault.ReadFault) = TellsStop old new Open
  Answers old new (Err (fault.Memory line)) = BreaksOff old new line

-- the lines stop for good where the feed does
abbrev pub StopsLines : {S : Type 0} → Result (Option Fed) FeedFault → Lined S → Type 0
StopsLines (Ok (Some fed)) new = Unit {0}
StopsLines (Ok None) new = IsStopped new cut.Whole
StopsLines (Err (fault.BadLine line)) new = Unit {0}
StopsLines (Err (fault.Cut line)) new = IsStopped new cut.Whole
StopsLines (Err (fault.LineLong line)) new = IsStopped new cut.Long × (line ≡ new.given + 1)
StopsLines (Err (fault.TooLong taken)) new = IsStopped new cut.Over
StopsLines (Err fault.ReadFault) new = IsStopped new cut.Open
StopsLines (Err (fault.Memory line)) new = Unit {0}

-- the answer where the lines stopped before, and this many were given
abbrev pub answer_at : ℕ → cut.Stop → Result (Option Fed) FeedFault
answer_at given cut.Whole = Ok None
answer_at given cut.Open = Err fault.ReadFault
answer_at given cut.Long = Err (fault.LineLong (given + 1))
answer_at given cut.Over = Err (fault.TooLong (most_bytes + 1))

-- An item begins in one of the lines that this call was given, and no more than 33,554,432 were given; want of memory may name the next line too
abbrev pub IsPlaced : {S : Type 0} → Result (Option Fed) FeedFault → Lined S → Lined S → Type 0
IsPlaced (Ok (Some fed)) old new = (old.given < fed.line) × (fed.line ≤ new.given) × (new.given ≤ most_bytes)
IsPlaced (Ok None) old new = Unit {0}
IsPlaced (Err (fault.BadLine line)) old new = (old.given < line) × (line ≡ new.given) × (new.given ≤ most_bytes)
IsPlaced (Err (fault.Cut line)) old new = (old.given < line) × (line ≤ new.given)
IsPlaced (Err (fault.LineLong line)) old new = old.given < line
IsPlaced (Err (fault.TooLong taken)) old new = Unit {0}
IsPlaced (Err fault.ReadFault) old new = Unit {0}
IsPlaced (Err (fault.Memory line)) old new = (old.given < line) × (line ≤ new.given + 1)
