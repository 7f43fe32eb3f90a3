-- The calls of a netting set after a journal: which are outstanding, and what is booked.
-- (ISDA 2016 Credit Support Annex for Initial Margin: Delivery Amount, Return Amount; prior deliveries and returns not yet
-- completed count as made.)
use Rattle.std.specs.Prelude.{ℕ, ◌+◌, ◌==◌, List, [], ◌∷◌, ◌++◌, map, Bool, false, ◌&&◌, if◌then◌else◌, ℤ, ◌+ℤ◌}
use Rattle.std.specs.List.{list_any}
use Rattle.collateral_ledger.specs.CsaTerms.Terms.{Agreement}
use Rattle.collateral_ledger.specs.Holdings.{Call}
use Rattle.collateral_ledger.specs.Booked.{total, settled}
use Rattle.collateral_ledger.specs.Changes.{has_call}
use Rattle.side_events.specs.declared.side_event.SideEvent.{SideEvent}
use Rattle.side_events.specs.declared.side_event.SideEvent.TheVariants as side
use Rattle.held_cell.specs.declared.entry.Entry.{Entry}
use Rattle.set_core.specs.declared.event.Event.{Event}
use Rattle.set_core.specs.declared.reply.Reply.{Reply}
use Rattle.set_core.specs.declared.reply.Reply.TheVariants as reply
use Rattle.set_core.specs.Events.{if_side}
use Rattle.set_core.specs.Book.{is_accepted}
use Rattle.set_core.specs.Lots.{lots_counted}

-- how many calls a reply makes
abbrev pub calls_by : Reply → ℕ
calls_by (reply.Called note) = 1
calls_by _ = 0

-- how many calls were made: the Called replies
abbrev pub made : List (Entry Event Reply) → ℕ
made [] = 0
made (e ∷ log) = calls_by e.reply + made log

abbrev pub closes : ℕ → SideEvent → Bool
closes number (side.PutLot lot class value currency) = false
closes number (side.TakeLot lot) = false
closes number (side.MarkLot lot value) = false
closes number (side.CloseCall closed) = closed == number
closes number side.AskMargin = false
closes number (side.AskCall moment) = false

-- an accepted entry that closes the call
abbrev pub is_closed_by : ℕ → Entry Event Reply → Bool
is_closed_by number e = is_accepted e.reply && if_side (closes number) false e.event

-- the call of this number that a reply makes
abbrev pub call_made : ℕ → Reply → List Call
call_made number (reply.Called note) = record { number = number; flow = note.flow; amount = note.amount } ∷ []
call_made number _ = []

-- a call is outstanding where no later accepted entry closes it
abbrev pub stays_open : List (Entry Event Reply) → List Call → List Call
stays_open after [] = []
stays_open after (call ∷ calls) =
    if list_any (is_closed_by call.number) after then stays_open after calls else call ∷ stays_open after calls

-- the calls of a journal that are outstanding, where so many were made before
abbrev pub outstanding_after : ℕ → List (Entry Event Reply) → List Call
outstanding_after before [] = []
outstanding_after before (e ∷ after) =
    stays_open after (call_made (before + 1) e.reply) ++ outstanding_after (before + calls_by e.reply) after

-- the outstanding calls: the n-th Called reply makes the call of number n
abbrev pub outstanding : List (Entry Event Reply) → List Call
outstanding log = outstanding_after 0 log

abbrev pub is_outstanding : List (Entry Event Reply) → ℕ → Bool
is_outstanding log number = has_call number (outstanding log)

-- what is booked: what the lots count for, with outstanding deliveries, less outstanding returns
abbrev pub booked : Agreement → List (Entry Event Reply) → ℤ
booked terms log = lots_counted terms log +ℤ total (map settled (outstanding log))
