-- What a sample does: for each status what happened, and what was printed.
use Rattle.std.specs.Prelude.{ℕ, ◌≡◌, ◌+◌, ◌*◌, List, [], ◌∷◌, ◌++◌, length, codes, decimal}
use Rattle.mh_io.specs.Faults.{Rises}
use Rattle.mh_io.specs.Sink.{SinkSeen}
use Rattle.simm_kinds.specs.Batch.{rows_of}
use Rattle.simm_kinds.specs.declared.margin_side.MarginSide.TheVariants.{Collect}
use Rattle.simm_rules.specs.declared.values.Breakdown.{Breakdown}
use Rattle.simm_rules.specs.Simm.{simm}
use Rattle.held_cell.specs.Entries.{entry}
use Rattle.feed_gate.specs.SetCore.declared.event.Event.TheVariants as event
use Rattle.feed_gate.specs.FeedReader.SideEvents.declared.side_event.SideEvent.TheVariants as side
use Rattle.feed_gate.specs.SetCore.declared.reply.Reply.TheVariants as reply
use Rattle.feed_gate.specs.SetCore.Book.{book}
use Rattle.feed_gate.specs.SetCore.Tables.{tables}
use Rattle.feed_gate.specs.SetCore.Set.{Set, IsSet}
use Rattle.fault_text.specs.Fields.{field, last_field}
use Rattle.breakdown_text.specs.Margins.{margin_text}
use Rattle.command_files.specs.declared.status.Status.{Status}
use Rattle.command_files.specs.declared.status.Status.TheVariants as status
use Rattle.command_files.specs.Printed.{Got, GotFront}
use Rattle.house_sample.specs.Agreements.{set_name}
use Rattle.margin_sample.specs.Sets.{IsFed, sample_margin}

-- A set was asked once more, in the name of the first caller: behind the calls of the feeds its journal has that question, and the
-- answer is the margin of the written rule, from scratch, over the trades that the feeds brought.
pub record IsAsked (fed s : Set) (b : Breakdown) : Type 0 where
  pub params : s.params ≡ fed.params
  pub terms : s.terms ≡ fed.terms
  pub legal : IsSet s.params s.terms s.journal
  pub margin : b ≡ simm (tables fed.params fed.journal) (rows_of (book fed.journal))
  pub last : s.journal ≡ fed.journal ++ entry 0 (event.OnSide Collect side.AskMargin) (reply.Margin b) ∷ []

-- a set: its name, how many entries its journal has, and its margin
abbrev pub asked_text : Set → Breakdown → List ℕ
asked_text s b = field (codes "SET") ++ field s.terms.collect.name ++ last_field (decimal (length s.journal)) ++ margin_text b

-- each of these sets was asked, and this is their text
abbrev pub AreSummed : List Set → List ℕ → Type 0
AreSummed [] text = text ≡ []
AreSummed (fed ∷ more) text =
    (s : Set) × (b : Breakdown) × (rest : List ℕ) × IsAsked fed s b × (text ≡ asked_text s b ++ rest) × AreSummed more rest

-- the first line
abbrev pub head_text : ℕ → ℕ → List ℕ
head_text feeds seed = field (codes "SAMPLE") ++ field (decimal feeds) ++ last_field (decimal seed)

-- the set at a place: its name, fifty entries of each feed and the last question, and the margin of all trades
abbrev pub set_text : ℕ → ℕ → ℕ → List ℕ
set_text feeds seed place =
    field (codes "SET") ++ field (set_name place) ++ last_field (decimal (50 * feeds + 1)) ++ margin_text (sample_margin feeds seed place)

-- the whole text, which hangs on both numbers alone
abbrev pub sample_text : ℕ → ℕ → List ℕ
sample_text feeds seed = head_text feeds seed ++ (set_text feeds seed 0 ++ set_text feeds seed 1)

-- The feeds ran on the set at a place, and then it was asked once more: the answer is the margin of all trades.
pub record IsSampled (feeds seed place : ℕ) : Type 0 where
  pub fed : Set
  pub after : Set
  pub is : IsFed feeds seed place fed
  pub asked : IsAsked fed after (sample_margin feeds seed place)

-- so both sets, and this is the whole text
pub record HasSampled (feeds seed : ℕ) (text : List ℕ) : Type 0 where
  pub first : IsSampled feeds seed 0
  pub second : IsSampled feeds seed 1
  pub is : text ≡ sample_text feeds seed

-- What a sample with this status did. For want of memory, in a feed too, nothing is printed.
abbrev pub SampleEnds : ℕ → ℕ → SinkSeen → SinkSeen → Status → Type 0
SampleEnds feeds seed old new status.Done = (text : List ℕ) × HasSampled feeds seed text × Got old new text
SampleEnds feeds seed old new status.Write = (text : List ℕ) × HasSampled feeds seed text × GotFront old new text
SampleEnds feeds seed old new status.Memory = new.holds ≡ old.holds
SampleEnds feeds seed old new _ = ⊥

-- a sample has to succeed where no count of faults rose
pub record IsWellSample (old new : SinkSeen) : Type 0 where
  pub puts_stood : Rises old.faults new.faults → ⊥
