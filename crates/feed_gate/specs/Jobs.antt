-- What running a feed beside others does to its lines, to its seats and to its report.
use Rattle.std.specs.Prelude.{◌≡◌, ℕ, List, [], ◌∷◌, ◌++◌, map, Option, Some, None}
use Rattle.std.specs.List.{AllByRecursion}
use mathlib.Core.List.{IsPrefix}
use Rattle.feed_events.specs.FeedReader.MhIo.Source.{SourceSeen}
use Rattle.feed_events.specs.FeedReader.MhIo.Lined.{Lined}
use Rattle.feed_events.specs.SetCore.HeldCell.Seats.{HasOwn}
use Rattle.feed_events.specs.SetCore.HeldCell.Calls.{IsSameSeat}
use Rattle.feed_events.specs.FeedReader.Feed.{Item, line_of}
use Rattle.feed_events.specs.FeedReader.Answers.{TellsItems}
use Rattle.feed_gate.specs.declared.report.RefusedMessage.{RefusedMessage}
use Rattle.feed_runs.specs.declared.feed_end.FeedEnd.{FeedEnd}
use Rattle.feed_runs.specs.declared.feed_end.FeedEnd.TheVariants as end_at
use Rattle.feed_gate.specs.declared.job.FeedJob.{FeedJob}
use Rattle.feed_gate.specs.Run.{with_answer, EndsAt}
use Rattle.feed_gate.specs.Seats.{Seat, AllSee, OfEachSet}
use Rattle.feed_gate.specs.Met.{Met, IsMet, Steps, refused_of, done_of, events_of, events_done, ShowFronts}

-- ---- one set

-- What a feed did to a set, by its seat: its calls, each once and in its order, without those for which the journal was
-- full, are what the journal gained of it. The seat is of the same cell and caller, has seen all that it had and more, and
-- each full journal was a front of that.
pub record RanOnSet (mets : List Met) (name : List ℕ) (old new : Seat) : Type 0 where
  pub same : IsSameSeat old new
  pub begins : IsPrefix old.seen new.seen
  pub own : events_of new.own ≡ events_of old.own ++ events_done name mets
  pub all : HasOwn old → HasOwn new
  pub fronts : ShowFronts old.first old.count new.seen name (events_of old.own) mets

-- ---- one item

-- an item met its set, and is reported
pub record TakesMessage {S : Type 0} (names : List (List ℕ)) (item : Item) (old new : FeedJob S) : Type 0 where
  pub refused : Option RefusedMessage
  pub met : IsMet names (record { item = item; refused = refused })
  pub sets : OfEachSet (Steps (record { item = item; refused = refused })) names old.seats.items new.seats.items
  pub report : new.report ≡ with_answer old.report refused

-- there was no memory for an item, and no entry of it
pub record LeavesMessage {S : Type 0} (item : Item) (old new : FeedJob S) (why : FeedEnd) : Type 0 where
  pub sees : AllSee old.seats.items new.seats.items
  pub report : new.report ≡ old.report
  pub line : why ≡ end_at.Memory (line_of item)

abbrev pub Meets : {S : Type 0} → List (List ℕ) → Item → FeedJob S → FeedJob S → Option FeedEnd → Type 0
Meets names item old new None = TakesMessage names item old new
Meets names item old new (Some why) = LeavesMessage item old new why

-- ---- from one moment to a later one

module _ {S : Type 0} (seen : S → SourceSeen) where
  -- one item more was told and met its set
  pub record TakesItem (names : List (List ℕ)) (first : Lined S) (told : List Item) (old new : FeedJob S) : Type 0 where
    pub item : Item
    pub tells : TellsItems seen first new.lines (told ++ item ∷ [])
    pub takes : TakesMessage names item old new

  -- no item came, or there was no memory for it
  pub record TakesNone (first : Lined S) (told : List Item) (old new : FeedJob S) (why : FeedEnd) : Type 0 where
    pub ends : EndsAt seen why first new.lines told
    pub sees : AllSee old.seats.items new.seats.items
    pub report : new.report ≡ old.report

  abbrev pub Takes : List (List ℕ) → Lined S → List Item → FeedJob S → FeedJob S → Option FeedEnd → Type 0
  Takes names first told old new None = TakesItem names first told old new
  Takes names first told old new (Some why) = TakesNone first told old new why

  -- these items were told so far, and each met its set
  pub record RanTo (names : List (List ℕ)) (old new : FeedJob S) (mets : List Met) : Type 0 where
    pub told : TellsItems seen old.lines new.lines (map (λ m. m.item) mets)
    pub met : AllByRecursion (IsMet names) mets
    pub sets : OfEachSet (RanOnSet mets) names old.seats.items new.seats.items
    pub done : new.report.done ≡ done_of mets
    pub refused : new.report.refused ≡ refused_of mets

  -- A feed that was run: what became of each of its items, set by set, and then no more came. Its number stands.
  pub record RanFeed (names : List (List ℕ)) (old new : FeedJob S) : Type 0 where
    pub mets : List Met
    pub ends : EndsAt seen new.report.end old.lines new.lines (map (λ m. m.item) mets)
    pub met : AllByRecursion (IsMet names) mets
    pub sets : OfEachSet (RanOnSet mets) names old.seats.items new.seats.items
    pub done : new.report.done ≡ done_of mets
    pub refused : new.report.refused ≡ refused_of mets
    pub number : new.number ≡ old.number
