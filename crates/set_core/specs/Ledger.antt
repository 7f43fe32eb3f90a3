-- The ledgers of a netting set, one of each side: what they hold after a journal, and what they make of an event.
use Rattle.std.specs.Prelude.{◌≡◌, ℕ, ◌+◌, List, [], ◌∷◌, ◌++◌, map, if◌then◌else◌, Option, None, Some, Result, Ok, Err}
use Rattle.collateral_ledger.specs.SimmKinds.declared.margin_side.MarginSide.{MarginSide}
use Rattle.collateral_ledger.specs.SimmKinds.declared.margin_side.MarginSide.TheVariants.{Collect, Post}
use Rattle.collateral_ledger.specs.CsaTerms.Terms.{Agreement, Agreements}
use Rattle.collateral_ledger.specs.declared.fault.LedgerFault.{LedgerFault}
use Rattle.collateral_ledger.specs.declared.fault.LedgerFault.TheVariants as fault
use Rattle.collateral_ledger.specs.Holdings.{Lot as Held, Call, Holdings}
use Rattle.collateral_ledger.specs.Booked.{rate_of}
use Rattle.collateral_ledger.specs.Changes.{with_value, without_lot, without_call}
use Rattle.side_events.specs.declared.side_event.SideEvent.{SideEvent}
use Rattle.side_events.specs.declared.side_event.SideEvent.TheVariants as side
use Rattle.held_cell.specs.declared.entry.Entry.{Entry}
use Rattle.set_core.specs.declared.event.Event.{Event}
use Rattle.set_core.specs.declared.ledgers.Ledgers.{Ledgers}
use Rattle.set_core.specs.declared.event.Event.TheVariants as event
use Rattle.set_core.specs.declared.reply.Reply.{Reply}
use Rattle.set_core.specs.declared.reply.Reply.TheVariants as reply
use Rattle.set_core.specs.declared.refusal.Refusal.{Refusal}
use Rattle.set_core.specs.declared.refusal.Refusal.TheVariants as refusal
use Rattle.set_core.specs.Book.{is_accepted}
use Rattle.set_core.specs.Lots.{Lot, lots}
use Rattle.set_core.specs.Calls.{made, outstanding}
use Rattle.set_core.specs.Sides.{entries_of}

-- a lot with what counts of each dollar of it, looked up
abbrev pub held_lot : Agreement → Lot → Held
held_lot t lot = record { name = lot.name; value = lot.value; rate = rate_of t lot.class lot.currency }

-- the lots and the outstanding calls of a journal, and how many calls were made
abbrev pub holdings : Agreement → List (Entry Event Reply) → Holdings
holdings t log = record { terms = t; lots = map (held_lot t) (lots log); calls = outstanding log; added = made log }

abbrev pub ledger_on : MarginSide → Ledgers → Holdings
ledger_on Collect held = held.collect
ledger_on Post held = held.post

abbrev pub with_ledger : MarginSide → Holdings → Ledgers → Ledgers
with_ledger Collect ledger held = record held { collect = ledger }
with_ledger Post ledger held = record held { post = ledger }

-- the terms that they call by
abbrev pub terms_of : Ledgers → Agreements
terms_of held = record { collect = held.collect.terms; post = held.post.terms }

-- each holds what the entries of its side leave
abbrev pub ledgers : Agreements → List (Entry Event Reply) → Ledgers
ledgers both log = record { collect = holdings both.collect (entries_of Collect log); post = holdings both.post (entries_of Post log) }

-- ---- what an event and its reply leave of it

abbrev pub lots_after : Agreement → List Held → Reply → SideEvent → List Held
lots_after t held r (side.PutLot lot class value currency) =
    if is_accepted r then held ++ held_lot t (record { name = lot; class = class; currency = currency; value = value }) ∷ [] else held
lots_after t held r (side.TakeLot lot) = if is_accepted r then without_lot lot held else held
lots_after t held r (side.MarkLot lot value) = if is_accepted r then with_value lot value held else held
lots_after t held r (side.CloseCall number) = held
lots_after t held r side.AskMargin = held
lots_after t held r (side.AskCall moment) = held

abbrev pub calls_closed : List Call → Reply → SideEvent → List Call
calls_closed calls r (side.PutLot lot class value currency) = calls
calls_closed calls r (side.TakeLot lot) = calls
calls_closed calls r (side.MarkLot lot value) = calls
calls_closed calls r (side.CloseCall number) = if is_accepted r then without_call number calls else calls
calls_closed calls r side.AskMargin = calls
calls_closed calls r (side.AskCall moment) = calls

abbrev pub calls_added : ℕ → List Call → Reply → List Call
calls_added added calls (reply.Called note) = calls ++ record { number = added + 1; flow = note.flow; amount = note.amount } ∷ []
calls_added added calls _ = calls

abbrev pub count_after : ℕ → Reply → ℕ
count_after added (reply.Called note) = added + 1
count_after added _ = added

-- with the call that a reply makes
abbrev pub with_call : Holdings → Reply → Holdings
with_call h r = record h { calls = calls_added h.added h.calls r; added = count_after h.added r }

abbrev pub holdings_after : Holdings → SideEvent → Reply → Holdings
holdings_after h e r = record {
  terms = h.terms;
  lots = lots_after h.terms h.lots r e;
  calls = calls_added h.added (calls_closed h.calls r e) r;
  added = count_after h.added r;
}

-- the ledger of the event's side after it, and the other as it was
abbrev pub ledgers_after : Ledgers → Event → Reply → Ledgers
ledgers_after held (event.Submit trades) r = held
ledgers_after held (event.Withdraw names) r = held
ledgers_after held (event.Tables text) r = held
ledgers_after held (event.OnSide on e) r = with_ledger on (holdings_after (ledger_on on held) e r) held

-- ---- its refusals

-- the refusal that a fault is; want of memory is none
abbrev pub refusal_of : LedgerFault → Option Refusal
refusal_of fault.LotKnown = Some refusal.LotKnown
refusal_of fault.LotUnknown = Some refusal.LotUnknown
refusal_of fault.ClassUnknown = Some refusal.ClassUnknown
refusal_of fault.CallUnknown = Some refusal.CallUnknown
refusal_of (fault.LotRange value) = Some (refusal.LotRange value)
refusal_of (fault.LotsFull count) = Some (refusal.LotsFull count)
refusal_of fault.Memory = None

abbrev pub if_allowed : Option Refusal → Reply
if_allowed None = reply.Accepted
if_allowed (Some why) = reply.Refused why

abbrev pub ledger_reply : Option LedgerFault → Reply
ledger_reply None = reply.Accepted
ledger_reply (Some f) = if_allowed (refusal_of f)

-- the reply to a change that was made, or was refused
abbrev pub Replies : Result (Unit {0}) LedgerFault → Reply → Type 0
Replies (Ok _) r = r ≡ reply.Accepted
Replies (Err f) r = (why : Refusal) × (refusal_of f ≡ Some why) × (r ≡ reply.Refused why)
