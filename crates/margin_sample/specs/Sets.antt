-- The sets of a sample behind its feeds.
use Rattle.std.specs.Prelude.{◌≡◌, ℕ, ◌*◌, ◌<◌, List, [], ◌∷◌, length}
use Rattle.std.specs.List.{AllByRecursion}
use Rattle.simm_kinds.specs.Batch.{rows_of}
use Rattle.simm_rules.specs.declared.values.Breakdown.{Breakdown}
use Rattle.simm_rules.specs.Simm.{simm}
use Rattle.held_cell.specs.declared.entry.Entry.{Entry}
use Rattle.held_cell.specs.Entries.{own_of}
use Rattle.feed_gate.specs.SetCore.declared.event.Event.{Event}
use Rattle.feed_gate.specs.SetCore.declared.event.Event.TheVariants as event
use Rattle.feed_gate.specs.SetCore.declared.reply.Reply.{Reply}
use Rattle.feed_gate.specs.SetCore.declared.reply.Reply.TheVariants as reply
use Rattle.feed_gate.specs.SetCore.Book.{book}
use Rattle.feed_gate.specs.SetCore.Tables.{tables}
use Rattle.feed_gate.specs.SetCore.Set.{Set, IsSet}
use Rattle.feed_gate.specs.Met.{events_of}
use Rattle.house_sample.specs.Parameters.{sample_params}
use Rattle.house_sample.specs.Agreements.{set_name, agreements}
use Rattle.house_sample.specs.Trades.{all_trades}
use Rattle.margin_sample.specs.Calls.{calls_of}

-- a batch was accepted; of a question nothing is said
abbrev pub IsTakenBy : Event → Reply → Type 0
IsTakenBy (event.Submit trades) r = r ≡ reply.Accepted
IsTakenBy (event.Withdraw names) r = Unit {0}
IsTakenBy (event.Tables text) r = Unit {0}
IsTakenBy (event.OnSide on e) r = Unit {0}

abbrev pub IsTaken : Entry Event Reply → Type 0
IsTaken e = IsTakenBy e.event e.reply

-- the margin of the written rule, over all trades that so many feeds bring to the set at a place
abbrev pub sample_margin : ℕ → ℕ → ℕ → Breakdown
sample_margin feeds seed place = simm sample_params (rows_of (all_trades seed place feeds))

-- The set at a place, 0 or 1, behind so many feeds. Its journal is legal: it holds the calls of each feed, each once and in its
-- order, fifty of each, and nothing else, and each batch was accepted. In whatever order the feeds came, the margin of its book is
-- that of all of their trades.
pub record IsFed (feeds seed place : ℕ) (s : Set) : Type 0 where
  pub params : s.params ≡ sample_params
  pub terms : s.terms ≡ agreements (set_name place)
  pub legal : IsSet s.params s.terms s.journal
  pub callers : own_of 0 feeds s.journal ≡ s.journal
  pub calls : (feed : ℕ) → feed < feeds → events_of (own_of feed 1 s.journal) ≡ calls_of seed feed place
  pub count : length s.journal ≡ 50 * feeds
  pub taken : AllByRecursion IsTaken s.journal
  pub margin : simm (tables s.params s.journal) (rows_of (book s.journal)) ≡ sample_margin feeds seed place

-- both sets
pub record AreFed (feeds seed : ℕ) (sets : List Set) : Type 0 where
  pub first : Set
  pub second : Set
  pub are : sets ≡ first ∷ second ∷ []
  pub first_fed : IsFed feeds seed 0 first
  pub second_fed : IsFed feeds seed 1 second
