-- The events of a netting set: what each keeps, and what is said of those beside the trades alone.
use Rattle.side_events.specs.declared.side_event.SideEvent.{SideEvent}
use Rattle.collateral_ledger.specs.SimmKinds.Batch.{IsBatch}
use Rattle.set_core.specs.declared.event.Event.{Event}
use Rattle.set_core.specs.declared.event.Event.TheVariants as event

abbrev pub IsEvent : Event → Type 0
IsEvent (event.Submit trades) = IsBatch trades
IsEvent (event.Withdraw names) = Unit {0}
IsEvent (event.Tables text) = Unit {0}
IsEvent (event.OnSide on e) = Unit {0}

-- what is said of an event beside the trades, or else of every other
abbrev pub if_side : {A : Type 0} → (SideEvent → A) → A → Event → A
if_side said other (event.Submit trades) = other
if_side said other (event.Withdraw names) = other
if_side said other (event.Tables text) = other
if_side said other (event.OnSide on e) = said e
