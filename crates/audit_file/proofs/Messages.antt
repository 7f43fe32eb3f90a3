-- The events of entries, as messages, give these events.
use Rattle.std.proofs.Common.{◌≡◌, List, ℕ, Ok, refl, ap}
use Rattle.std.specs.Result.{result_map_both}
use Rattle.feed_events.specs.SetCore.declared.event.Event.{Event}
use Rattle.feed_events.specs.SetCore.declared.event.Event.TheVariants as event
use Rattle.feed_events.specs.declared.block.BlockFault.TheVariants as fault
use Rattle.feed_events.specs.Events.{event_of}
use Rattle.crif_writer.proofs.ReadsBack.{reads_back}
use Rattle.audit_file.specs.Written.{message_of, HoldsEvent}

pub event_back : (set : List ℕ) (e : Event) → HoldsEvent e → event_of (message_of set e) ≡ Ok e
event_back set (event.Submit trades) holds = ap (result_map_both (λ crif. event.Submit crif.trades) fault.Batch) (reads_back trades holds.0 holds.1)
event_back set (event.Tables text) holds = ap (result_map_both event.Tables fault.Tables) holds
event_back set (event.Withdraw names) holds = refl
event_back set (event.OnSide on e) holds = refl
