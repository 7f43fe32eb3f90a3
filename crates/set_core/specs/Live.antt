-- What a live margin and the ledgers make of an event.
use Rattle.std.specs.Prelude.{◌≡◌, List, Bool, true, Result, Ok, Err}
use Rattle.collateral_ledger.specs.SimmKinds.declared.margin_side.MarginSide.{MarginSide}
use Rattle.collateral_ledger.specs.SimmKinds.declared.row.TradeRows.{TradeRows}
use Rattle.collateral_ledger.specs.SimmKinds.Batch.{rows_of}
use Rattle.bucket_cache.specs.SimmRules.Params.{Params}
use Rattle.bucket_cache.specs.SimmRules.Range.{range}
use Rattle.bucket_cache.specs.SimmRules.Simm.{simm}
use Rattle.bucket_cache.specs.FactorBook.declared.place.Place.{Place}
use Rattle.bucket_cache.specs.declared.fault.BookFault.{BookFault}
use Rattle.bucket_cache.specs.declared.fault.BookFault.TheVariants as book_fault
use Rattle.bucket_cache.specs.Cached.{touches, is_cached, IsCached}
use Rattle.bucket_cache.specs.BookMargin.NegatedBook.Sides.{side_rows}
use Rattle.bucket_cache.specs.Live.{Live, put_trades, without, first_unadmitted, first_unknown}
use Rattle.collateral_ledger.specs.Holdings.{Holdings}
use Rattle.collateral_ledger.specs.Booked.{booked_of}
use Rattle.collateral_ledger.specs.Refusals.{put_refusal, take_refusal, mark_refusal, close_refusal}
use Rattle.side_events.specs.declared.side_event.SideEvent.{SideEvent}
use Rattle.side_events.specs.declared.side_event.SideEvent.TheVariants as side
use Rattle.set_core.specs.declared.event.Event.{Event}
use Rattle.set_core.specs.declared.ledgers.Ledgers.{Ledgers}
use Rattle.set_core.specs.declared.event.Event.TheVariants as event
use Rattle.set_core.specs.declared.reply.Reply.{Reply}
use Rattle.set_core.specs.declared.reply.Reply.TheVariants as reply
use Rattle.set_core.specs.declared.refusal.Refusal.TheVariants as refusal
use Rattle.set_core.specs.Answer.{if_admitted, if_known, if_calling_day}
use Rattle.set_core.specs.Ledger.{ledger_on, holdings_after, ledgers_after, ledger_reply}
use Rattle.set_core.specs.Cached.{touched_by, touches_margin, is_kept, is_known}

-- what a live margin has of its trades: the parameters of their margin, and the book
pub record Traded : Type 0 where
  pub params : Params
  pub book : List TradeRows

abbrev pub traded : Live → Traded
traded live = record { params = live.params; book = live.book }

-- the reply to an event of a side, by its ledger, and to every event
abbrev pub side_reply : Traded → Holdings → MarginSide → SideEvent → Reply
side_reply l h on (side.PutLot lot class value currency) = ledger_reply (put_refusal h lot class value)
side_reply l h on (side.TakeLot lot) = ledger_reply (take_refusal h lot)
side_reply l h on (side.MarkLot lot value) = ledger_reply (mark_refusal h lot value)
side_reply l h on (side.CloseCall number) = ledger_reply (close_refusal h number)
side_reply l h on side.AskMargin = reply.Margin (simm l.params (side_rows on (rows_of l.book)))
side_reply l h on (side.AskCall moment) = if_calling_day h.terms h.added (simm l.params (side_rows on (rows_of l.book))).total.0 (booked_of h) moment

abbrev pub live_reply : Traded → Ledgers → Event → Reply
live_reply l h (event.Submit trades) = if_admitted (first_unadmitted l.params trades) (range l.params (rows_of (put_trades trades l.book)))
live_reply l h (event.Withdraw names) = if_known (first_unknown names l.book)
live_reply l h (event.Tables text) = if_admitted (first_unadmitted text.params l.book) (range text.params (rows_of l.book))
live_reply l h (event.OnSide on e) = side_reply l (ledger_on on h) on e

-- the book after the event and its reply
abbrev pub live_book : List TradeRows → Event → Reply → List TradeRows
live_book book (event.Submit trades) reply.Accepted = put_trades trades book
live_book book (event.Withdraw names) reply.Accepted = without names book
live_book book _ _ = book

-- and the tables
abbrev pub live_params : Params → Event → Reply → Params
live_params p (event.Tables text) reply.Accepted = text.params
live_params p _ _ = p

-- the reply to a change of the book, or of its tables, that was made or refused
abbrev pub BookReplies : Result (Unit {0}) BookFault → Reply → Type 0
BookReplies (Ok _) r = r ≡ reply.Accepted
BookReplies (Err (book_fault.BucketUnknown trade row)) r = r ≡ reply.Refused (refusal.BucketUnknown trade row)
BookReplies (Err (book_fault.Range fault)) r = r ≡ reply.Refused (refusal.Range fault)
BookReplies (Err book_fault.Memory) r = ⊥

pub record Does (old new : Traded) (had has : Ledgers) (e : Event) (r : Reply) : Type 0 where
  pub value : r ≡ live_reply old had e
  pub live : new ≡ record { params = live_params old.params e r; book = live_book old.book e r }
  pub ledger : has ≡ ledgers_after had e r

-- what an event of a side does, by its own ledger
pub record DoesOn (on : MarginSide) (old new : Traded) (had has : Holdings) (e : SideEvent) (r : Reply) : Type 0 where
  pub value : r ≡ side_reply old had on e
  pub live : new ≡ old
  pub ledger : has ≡ holdings_after had e r

-- ---- what a live margin has kept

-- the margin is known, and the value of each bucket is kept in which a row lies, and of no other
pub record IsWorkedOut (live : Live) : Type 0 where
  pub fresh : live.is_fresh ≡ true
  pub kept : (place : Place) → IsCached place live
  pub cached : (place : Place) → is_cached live.kept.values place ≡ touches place (rows_of live.book)

-- what was known is known
pub record StaysKept (old new : Live) : Type 0 where
  pub fresh : old.is_fresh ≡ true → new.is_fresh ≡ true
  pub kept : (place : Place) → IsCached place old → IsCached place new
  pub cached : (place : Place) → is_cached old.kept.values place ≡ true → is_cached new.kept.values place ≡ true

abbrev pub Carries : (Live → Type 0) → Bool → Live → Live → Reply → Type 0
Carries Known touched old new r = (was : Bool) → (was ≡ true → Known old) → is_known was touched r ≡ true → Known new

-- where the reply is that of a question
abbrev pub IfAsked : Reply → Type 0 → Type 0
IfAsked reply.Accepted P = Unit {0}
IfAsked (reply.Refused why) P = Unit {0}
IfAsked _ P = P

-- just what is known after the event and its reply is kept; a question forgets nothing
pub record Caches (old new : Live) (e : Event) (r : Reply) : Type 0 where
  pub fresh : new.is_fresh ≡ is_known old.is_fresh (touches_margin e) r
  pub cached : (place : Place) → is_cached new.kept.values place
      ≡ is_kept (is_cached old.kept.values place) (touched_by place old.book e) (touches place (rows_of old.book)) r
  pub kept : (place : Place) → Carries (IsCached place) (touched_by place old.book e) old new r
  pub asked : IfAsked r (StaysKept old new)
