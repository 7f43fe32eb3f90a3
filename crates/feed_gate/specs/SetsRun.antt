-- What running feeds side by side on sets does, from each feed's first byte to its end.
use Rattle.std.specs.Prelude.{◌≡◌, ℕ, List, [], length, map, Bool}
use Rattle.std.specs.List.{AllByRecursion, AllZip}
use Rattle.feed_events.specs.FeedReader.MhIo.Source.{SourceSeen}
use Rattle.feed_events.specs.SetCore.HeldCell.declared.entry.Entry.{Entry}
use Rattle.feed_events.specs.SetCore.HeldCell.Entries.{own_of}
use Rattle.feed_events.specs.SetCore.declared.event.Event.{Event}
use Rattle.feed_events.specs.SetCore.declared.reply.Reply.{Reply}
use Rattle.feed_events.specs.SetCore.Set.{Set, IsSet}
use Rattle.feed_gate.specs.declared.report.FeedReport.{FeedReport}
use Rattle.feed_runs.specs.Ran.{RanFrom, EachRan}
use Rattle.feed_gate.specs.Run.{IsEnd}
use Rattle.feed_gate.specs.Met.{Met, IsMet, refused_of, done_of, events_of, events_done, ShowFronts}

-- A set behind the run of so many feeds: it has the parameters and the terms that it had, its journal is legal and within
-- its limits, and all entries in it are of these feeds.
pub record IsRun (feeds : ℕ) (old new : Set) : Type 0 where
  pub params : new.params ≡ old.params
  pub terms : new.terms ≡ old.terms
  pub legal : IsSet new.params new.terms new.journal
  pub callers : own_of 0 feeds new.journal ≡ new.journal

-- What a feed did to the set of this name, by the set's journal at the end: its entries are its calls, each once and in its
-- order, without those for which the journal was full, and each full journal was a front of that.
pub record IsFedBy (feed : ℕ) (mets : List Met) (name : List ℕ) (log : List (Entry Event Reply)) : Type 0 where
  pub own : events_of (own_of feed 1 log) ≡ events_done name mets
  pub fronts : ShowFronts feed 1 log name [] mets

-- What became of the bytes of a feed, where `ended` says that they are all: its items by the grammar, each of which met its
-- set, and what is reported of them.
pub record RanOver (feed : ℕ) (taken : List ℕ) (ended : Bool) (sets : List Set) (r : FeedReport) : Type 0 where
  pub mets : List Met
  pub stop : IsEnd r.end (map (λ m. m.item) mets) taken ended
  pub met : AllByRecursion (IsMet (map (λ s. s.terms.collect.name) sets)) mets
  pub done : r.done ≡ done_of mets
  pub refused : r.refused ≡ refused_of mets
  pub each : AllByRecursion (λ s. IsFedBy feed mets s.terms.collect.name s.journal) sets

module _ {S : Type 0} (seen : S → SourceSeen) where
  -- a source that was run, by the rule of sets
  abbrev pub RanSource : List Set → ℕ → S → S → FeedReport → Type 0
  RanSource sets feed old new r = RanFrom seen (λ taken ended. RanOver feed taken ended sets r) r.end old new

  -- each source was run, with its report, as the feed of the next number
  abbrev pub AllRan : List Set → ℕ → List S → List S → List FeedReport → Type 0
  AllRan sets from olds news reports = EachRan (RanSource sets) from olds news reports

  pub record RanOnSets (old_sets new_sets : List Set) (old new : List S) (reports : List FeedReport) : Type 0 where
    pub sets : AllZip (IsRun (length old)) old_sets new_sets
    pub feeds : AllRan new_sets 0 old new reports
