-- The calls that a feed of a sample makes on a set.
use Rattle.std.specs.Prelude.{ℕ, zero, suc, ◌==◌, List, [], ◌∷◌, ◌++◌, if◌then◌else◌}
use Rattle.simm_kinds.specs.declared.margin_side.MarginSide.TheVariants.{Collect}
use Rattle.feed_gate.specs.SetCore.declared.event.Event.{Event}
use Rattle.feed_gate.specs.SetCore.declared.event.Event.TheVariants as event
use Rattle.feed_gate.specs.FeedReader.SideEvents.declared.side_event.SideEvent.TheVariants as side
use Rattle.house_sample.specs.Trades.{batch_at, place_of, batches}

-- a question after the margin that is collected
abbrev pub asks : Event
asks = event.OnSide Collect side.AskMargin

-- a batch, and behind it a question
abbrev pub calls_at : ℕ → ℕ → ℕ → List Event
calls_at seed feed batch = event.Submit (batch_at seed feed batch) ∷ asks ∷ []

-- those of the first batches that go to the set at a place
unfoldable pub calls_to : ℕ → ℕ → ℕ → ℕ → List Event
calls_to seed feed place zero = []
calls_to seed feed place (suc n) = calls_to seed feed place n ++ (if place_of n == place then calls_at seed feed n else [])

abbrev pub calls_of : ℕ → ℕ → ℕ → List Event
calls_of seed feed place = calls_to seed feed place batches
