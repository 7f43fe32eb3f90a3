-- The answer to an event after a journal, by the written rule, and the journals that hold nothing else.
use Rattle.std.specs.Prelude.{ℕ, ◌+◌, ◌*◌, ◌^◌, ◌≡◌, List, [], ◌∷◌, ◌++◌, length, Bool, true, false, ◌&&◌, not, if◌then◌else◌, nat_le, Option, Some, None, is_some, option_map, position, ℤ, pos, int_le, unsigned_abs}
use Rattle.jiff_core.specs.Calendar.{days_from_civil}
use Rattle.collateral_ledger.specs.SimmKinds.declared.margin_side.MarginSide.{MarginSide}
use Rattle.collateral_ledger.specs.SimmKinds.declared.row.TradeRows.{TradeRows}
use Rattle.collateral_ledger.specs.SimmKinds.Batch.{rows_of}
use Rattle.bucket_cache.specs.SimmRules.declared.values.RangeFault.{RangeFault}
use Rattle.bucket_cache.specs.SimmRules.Params.{Params}
use Rattle.bucket_cache.specs.SimmRules.Simm.{simm}
use Rattle.bucket_cache.specs.SimmRules.Range.{range}
use Rattle.collateral_ledger.specs.CsaTerms.declared.flow.Flow.TheVariants as flow
use Rattle.collateral_ledger.specs.CsaTerms.Terms.{Agreement, Agreements, haircut_of}
use Rattle.collateral_ledger.specs.CsaTerms.Calendar.{Moment, due_day}
use Rattle.csa_calls.specs.declared.CallAmount.{CallAmount}
use Rattle.csa_calls.specs.declared.CallAmount.TheVariants as amount
use Rattle.csa_calls.specs.CallRule.{call_of, excess}
use Rattle.bucket_cache.specs.declared.place.RowPlace.{RowPlace}
use Rattle.bucket_cache.specs.BookMargin.NegatedBook.Sides.{side_rows}
use Rattle.bucket_cache.specs.Live.{first_unadmitted}
use Rattle.collateral_ledger.specs.Refusals.{is_lot_value}
use Rattle.side_events.specs.declared.side_event.SideEvent.{SideEvent}
use Rattle.side_events.specs.declared.side_event.SideEvent.TheVariants as side
use Rattle.held_cell.specs.declared.entry.Entry.{Entry}
use Rattle.held_cell.specs.Entries.{entry}
use Rattle.set_core.specs.declared.event.Event.{Event}
use Rattle.set_core.specs.declared.event.Event.TheVariants as event
use Rattle.set_core.specs.declared.reply.Reply.{Reply}
use Rattle.set_core.specs.declared.reply.Reply.TheVariants as reply
use Rattle.set_core.specs.declared.refusal.Refusal.TheVariants as refusal
use Rattle.set_core.specs.Book.{is_current, book}
use Rattle.set_core.specs.Sides.{terms_on, entries_of}
use Rattle.set_core.specs.Tables.{tables}
use Rattle.set_core.specs.Lots.{lots, is_there}
use Rattle.set_core.specs.Calls.{made, is_outstanding, booked}

-- the first place, from 1, whose name isn't current
abbrev pub first_unknown : List (Entry Event Reply) → List (List ℕ) → Option ℕ
first_unknown log names = option_map (λ i. i + 1) (position (λ name. not (is_current log name)) names)

abbrev pub if_in_range : Option RangeFault → Reply
if_in_range None = reply.Accepted
if_in_range (Some f) = reply.Refused (refusal.Range f)

-- the first row that the parameters don't admit is tested before the range
abbrev pub if_admitted : Option RowPlace → Option RangeFault → Reply
if_admitted None fault = if_in_range fault
if_admitted (Some at) fault = reply.Refused (refusal.BucketUnknown at.trade at.row)

abbrev pub if_known : Option ℕ → Reply
if_known None = reply.Accepted
if_known (Some place) = reply.Refused (refusal.UnknownTrade place)

-- the book as it is when the event is accepted
abbrev pub book_with : List (Entry Event Reply) → Event → List TradeRows
book_with log event = book (log ++ entry 0 event reply.Accepted ∷ [])

-- ---- lots

-- why a lot isn't put, in the order of the tests; at most 4,096 are there
abbrev pub if_put : Agreement → List (Entry Event Reply) → List ℕ → List ℕ → ℤ → Reply
if_put t log lot class value =
    if is_there log lot then reply.Refused refusal.LotKnown
    else (if not (is_some (haircut_of t class)) then reply.Refused refusal.ClassUnknown
    else (if not (is_lot_value value) then reply.Refused (refusal.LotRange value)
    else (if nat_le 4096 (length (lots log)) then reply.Refused (refusal.LotsFull 4096) else reply.Accepted)))

abbrev pub if_taken : Bool → Reply
if_taken true = reply.Accepted
if_taken false = reply.Refused refusal.LotUnknown

abbrev pub if_marked : Bool → ℤ → Reply
if_marked there value =
    if not there then reply.Refused refusal.LotUnknown
    else (if not (is_lot_value value) then reply.Refused (refusal.LotRange value) else reply.Accepted)

-- ---- calls

abbrev pub if_closed : Bool → Reply
if_closed true = reply.Accepted
if_closed false = reply.Refused refusal.CallUnknown

-- calls are made where neither the margin nor what is booked is above 4 * 10^17 cents in size
abbrev pub is_calling_range : ℤ → ℤ → Bool
is_calling_range margin booked = int_le margin (pos (4 * 10 ^ 17)) && nat_le (unsigned_abs booked) (4 * 10 ^ 17)

-- what is called for; past the calling range nothing
abbrev pub called_for : ℤ → ℤ → Agreement → CallAmount
called_for margin booked t =
    if is_calling_range margin booked then call_of margin booked t else amount.Nothing (excess margin booked t)

-- a call has the number of calls made, with this one
abbrev pub noted : ℕ → ℤ → ℤ → ℤ → CallAmount → Reply
noted made due margin booked (amount.Delivery cents) =
    reply.Called (record { number = made + 1; flow = flow.Delivery; amount = cents; due = due; margin = margin; booked = booked })
noted made due margin booked (amount.Return cents) =
    reply.Called (record { number = made + 1; flow = flow.Return; amount = cents; due = due; margin = margin; booked = booked })
noted made due margin booked (amount.Nothing excess) = reply.NoCall excess margin booked

-- a day of the years 1 to 9000
abbrev pub is_calling_day : ℤ → Bool
is_calling_day day = int_le (days_from_civil (pos 1) 1 1) day && int_le day (days_from_civil (pos 9000) 12 31)

abbrev pub if_calling_day : Agreement → ℕ → ℤ → ℤ → Moment → Reply
if_calling_day t made margin booked moment =
    if is_calling_day moment.day then noted made (due_day moment t) margin booked (called_for margin booked t)
    else reply.Refused (refusal.DayRange moment.day)

-- ---- all events

-- On a side, by its terms t and its own entries of the journal: lots and calls as above; a margin is that of the written rule by the
-- tables q over the book as the side sees it, and a call is made of it and of what is booked
abbrev pub answer_side : Params → Agreement → MarginSide → List (Entry Event Reply) → List (Entry Event Reply) → SideEvent → Reply
answer_side q t on log own (side.PutLot lot class value currency) = if_put t own lot class value
answer_side q t on log own (side.TakeLot lot) = if_taken (is_there own lot)
answer_side q t on log own (side.MarkLot lot value) = if_marked (is_there own lot) value
answer_side q t on log own (side.CloseCall number) = if_closed (is_outstanding own number)
answer_side q t on log own side.AskMargin = reply.Margin (simm q (side_rows on (rows_of (book log))))
answer_side q t on log own (side.AskCall moment) =
    if_calling_day t (made own) (simm q (side_rows on (rows_of (book log)))).total.0 (booked t own) moment

-- By the tables q: a submit is refused where a row isn't admitted, and then where the book with it is out of range; a withdrawal where a
-- name isn't current. Other tables are refused by the same two tests of the book, by themselves.
abbrev pub answer_by : Params → Agreements → List (Entry Event Reply) → Event → Reply
answer_by q both log (event.Submit trades) =
    if_admitted (first_unadmitted q trades) (range q (rows_of (book_with log (event.Submit trades))))
answer_by q both log (event.Withdraw names) = if_known (first_unknown log names)
answer_by q both log (event.Tables text) =
    if_admitted (first_unadmitted text.params (book log)) (range text.params (rows_of (book log)))
answer_by q both log (event.OnSide on e) = answer_side q (terms_on on both) on log (entries_of on log) e

-- by the tables that the journal leaves, which opened with p
abbrev pub answer : Params → Agreements → List (Entry Event Reply) → Event → Reply
answer p both log e = answer_by (tables p log) both log e

-- each entry's reply is the answer to its event after the entries before it
abbrev pub IsLegal : Params → Agreements → List (Entry Event Reply) → Type 0
IsLegal p both log = (before after : List (Entry Event Reply)) (e : Entry Event Reply) → log ≡ before ++ e ∷ after → e.reply ≡ answer p both before e.event
