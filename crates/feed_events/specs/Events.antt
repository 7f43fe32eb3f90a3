-- The event of a message.
use Rattle.std.specs.Prelude.{ℕ, List, Result, Ok}
use Rattle.std.specs.Result.{result_map_both}
use Rattle.crif_reader.specs.Grammar.{crif_of}
use Rattle.feed_reader.specs.declared.message.Message.{Message}
use Rattle.feed_reader.specs.declared.message.Message.TheVariants as message
use Rattle.set_core.specs.ParamsFile.Texts.{text_read}
use Rattle.set_core.specs.declared.event.Event.{Event}
use Rattle.set_core.specs.declared.event.Event.TheVariants as event
use Rattle.feed_events.specs.declared.block.BlockFault.{BlockFault}
use Rattle.feed_events.specs.declared.block.BlockFault.TheVariants as fault

-- the set that a message names
abbrev pub set_of : Message → List ℕ
set_of (message.Crif set block) = set
set_of (message.Tables set block) = set
set_of (message.Withdraw set names) = set
set_of (message.OnSide set side e) = set

-- the submit of a block of records, as a CRIF file of its own, or the first fault of its grammar
abbrev pub submit_of : List ℕ → Result Event BlockFault
submit_of block = result_map_both (λ crif. event.Submit crif.trades) fault.Batch (crif_of block)

-- the tables of a block, as a parameter file of its own, or why it is none
abbrev pub tables_of : List ℕ → Result Event BlockFault
tables_of block = result_map_both event.Tables fault.Tables (text_read block)

-- the event of a message; a block that is no batch, or no tables, has none
abbrev pub event_of : Message → Result Event BlockFault
event_of (message.Crif set block) = submit_of block
event_of (message.Tables set block) = tables_of block
event_of (message.Withdraw set names) = Ok (event.Withdraw names)
event_of (message.OnSide set side e) = Ok (event.OnSide side e)
