-- The calls of a feed on a set.
use Rattle.std.specs.Prelude.{ℕ, List, Option, None, if◌then◌else◌}
use Rattle.std.specs.Result.{result_ok}
use Rattle.feed_events.specs.CrifReader.SimmKinds.Order.{same_name}
use Rattle.feed_events.specs.FeedReader.Feed.{Item, Sent, BadAt}
use Rattle.feed_events.specs.SetCore.declared.event.Event.{Event}
use Rattle.feed_events.specs.Events.{set_of, event_of}

-- the call of an item on the set of this name, if it makes one
abbrev pub call_on : List ℕ → Item → Option Event
call_on name (Sent fed) = if same_name (set_of fed.message) name then result_ok (event_of fed.message) else None
call_on name (BadAt line) = None
