-- What a message comes to by its text alone: a call on a set, or a refusal with its cause.
use Rattle.std.specs.Prelude.{ℕ, List, Option, Some, None, Result, Ok, Err, position}
use Rattle.feed_events.specs.CrifReader.SimmKinds.Order.{same_name}
use Rattle.feed_events.specs.FeedReader.declared.message.Fed.{Fed}
use Rattle.feed_events.specs.FeedReader.Feed.{Item, Sent, BadAt}
use Rattle.feed_events.specs.SetCore.declared.event.Event.{Event}
use Rattle.feed_events.specs.SetCore.ParamsFile.declared.text_fault.ParamTextFault.TheVariants as text
use Rattle.feed_events.specs.declared.block.BlockFault.{BlockFault}
use Rattle.feed_events.specs.declared.block.BlockFault.TheVariants as block
use Rattle.feed_gate.specs.declared.fate.Fate.{Fate}
use Rattle.feed_gate.specs.declared.fate.Fate.TheVariants as fate
use Rattle.feed_gate.specs.declared.report.RefusedMessage.{RefusedMessage}
use Rattle.feed_gate.specs.declared.report.RefusedMessage.TheVariants as refused
use Rattle.feed_events.specs.Events.{set_of, event_of}

-- the place of a set, from 0
abbrev pub place_of : List ℕ → List (List ℕ) → Option ℕ
place_of name names = position (same_name name) names

-- a block of records that is no batch, or of tables that is none, with the first fault of its grammar
abbrev pub refused_block : ℕ → BlockFault → RefusedMessage
refused_block line (block.Batch fault) = refused.BadBatch line fault
refused_block line (block.Tables (text.Long bytes)) = refused.LongTables line bytes
refused_block line (block.Tables (text.Param fault)) = refused.BadTables line fault

abbrev pub by_event : ℕ → ℕ → Result Event BlockFault → Fate
by_event line place (Ok e) = fate.Calls (record { line = line; place = place; event = e })
by_event line place (Err fault) = fate.Refused (refused_block line fault)

-- a set that isn't there
abbrev pub by_place : Fed → Option ℕ → Fate
by_place fed None = fate.Refused (refused.UnknownSet fed.line)
by_place fed (Some place) = by_event fed.line place (event_of fed.message)

-- an item is no message, names no set, or holds no batch or no tables; tested in this order
abbrev pub fate_of : List (List ℕ) → Item → Fate
fate_of names (BadAt line) = fate.Refused (refused.BadLine line)
fate_of names (Sent fed) = by_place fed (place_of (set_of fed.message) names)
