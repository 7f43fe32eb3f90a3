-- Room that is put by for entries: which events it is for, and what there is of it.
use Rattle.std.specs.Prelude.{◌≡◌, ℕ, ◌+◌, ◌*◌, ◌≤◌, List, Bool, true, false, Result, OnErr}
use Rattle.side_events.specs.declared.side_event.SideEvent.{SideEvent}
use Rattle.side_events.specs.declared.side_event.SideEvent.TheVariants as side
use Rattle.held_cell.specs.declared.entry.Entry.{Entry}
use Rattle.held_cell.specs.declared.machine.Halt.{Halt}
use Rattle.held_cell.specs.declared.machine.Halt.TheVariants as halt
use Rattle.set_core.specs.declared.event.Event.{Event}
use Rattle.set_core.specs.declared.reply.Reply.{Reply}
use Rattle.set_core.specs.Events.{if_side}
use Rattle.set_core.specs.Cached.{is_margin_known}

-- What wants no memory but that of its entry and of the parts of its margin: a lot is taken or marked, a call is closed, and a
-- margin is asked that is known.
abbrev pub is_at_hand : Bool → SideEvent → Bool
is_at_hand known (side.PutLot lot class value currency) = false
is_at_hand known (side.TakeLot lot) = true
is_at_hand known (side.MarkLot lot value) = true
is_at_hand known (side.CloseCall number) = true
is_at_hand known side.AskMargin = known
is_at_hand known (side.AskCall moment) = false

-- after this journal
abbrev pub is_reserved : List (Entry Event Reply) → Event → Bool
is_reserved log e = if_side (is_at_hand (is_margin_known log)) false e

abbrev pub is_want : Halt Event → Bool
is_want (halt.Full entries weight event) = false
is_want (halt.Memory event) = true

-- Room was put by for so many entries more, each with the parts of a margin twice: for its caller, and for the journal.
pub record HasRoom (spare margins len capacity : ℕ) : Type 0 where
  pub entries : len + spare ≤ capacity
  pub margins_twice : 2 * spare ≤ margins

-- What is left of room for margins after a call that takes of it for so many at most, and for none where it fails.
abbrev pub LeavesRoom : {T E : Type 0} → ℕ → ℕ → ℕ → Result T E → Type 0
LeavesRoom most had has result = (had ≤ has + most) × OnErr result (has ≡ had)
