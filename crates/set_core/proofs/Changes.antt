-- What an event makes of the ledger alone.
use Rattle.std.proofs.Common.{◌≡◌, List, Option, None, Some, is_some, Result, Ok, Err, OnOk, OnErr, IfOk, MatchResult, refl, sym, ap, subst, ◌∙◌}
use Rattle.std.proofs.lemmas.Bool.{true≢false}
use Rattle.std.specs.declared.alloc.AllocError.{AllocError}
use Rattle.bucket_cache.specs.SimmRules.Params.{Params}
use Rattle.bucket_cache.specs.Live.{Live}
use Rattle.collateral_ledger.specs.declared.fault.LedgerFault.{LedgerFault}
use Rattle.collateral_ledger.specs.declared.fault.LedgerFault.TheVariants as fault
use Rattle.collateral_ledger.specs.Holdings.{Holdings}
use Rattle.collateral_ledger.specs.Refusals.{IsCause}
use Rattle.collateral_ledger.specs.SimmKinds.declared.margin_side.MarginSide.{MarginSide}
use Rattle.collateral_ledger.specs.SimmKinds.declared.row.TradeRows.{TradeRows}
use Rattle.side_events.specs.declared.side_event.SideEvent.{SideEvent}
use Rattle.set_core.specs.declared.event.Event.{Event}
use Rattle.set_core.specs.declared.ledgers.Ledgers.{Ledgers}
use Rattle.set_core.specs.declared.reply.Reply.{Reply}
use Rattle.set_core.specs.declared.reply.Reply.TheVariants as reply
use Rattle.set_core.specs.declared.refusal.Refusal.{Refusal}
use Rattle.set_core.specs.Ledger.{Replies, refusal_of, if_allowed, ledger_reply, holdings_after}
use Rattle.set_core.specs.Live.{Traded, traded, side_reply, Does, DoesOn}

-- A change of a ledger, which is made or has its cause to refuse, does the event whose reply it has.
pub change_does : (Cause : LedgerFault → Type 0) (old new after : Holdings) (refusal : Option LedgerFault) (e : SideEvent)
    → ((f : LedgerFault) (why : Refusal) → refusal_of f ≡ Some why → Cause f → refusal ≡ Some f)
    → ((on : MarginSide) (l : Traded) → side_reply l old on e ≡ ledger_reply refusal)
    → after ≡ holdings_after old e reply.Accepted
    → ((why : Refusal) → old ≡ holdings_after old e (reply.Refused why))
    → (change : Result (Unit {0}) LedgerFault) → MatchResult change (λ _. refusal ≡ None) Cause → OnOk change (new ≡ after) → OnErr change (new ≡ old)
    → (result : Result Reply AllocError) → IfOk result (λ r. Replies change r) → IfOk result (λ r. (on : MarginSide) (l : Traded) → DoesOn on l l old new e r)
change_does Cause old new after refusal e cause value made refused change answer ok err (Err _) is = tt
change_does Cause old new after refusal e cause value made refused (Ok _) answer ok err (Ok r) is = λ on l. record {
  value = is ∙ ap ledger_reply (sym answer) ∙ sym (value on l);
  live = refl;
  ledger = ok ∙ made ∙ ap (holdings_after old e) (sym is);
}
change_does Cause old new after refusal e cause value made refused (Err f) answer ok err (Ok r) is = λ on l. record {
  value = is.2 ∙ ap if_allowed (sym is.1) ∙ ap ledger_reply (sym (cause f is.0 is.1 answer)) ∙ sym (value on l);
  live = refl;
  ledger = err ∙ refused is.0 ∙ ap (holdings_after old e) (sym is.2);
}

-- a cause that isn't want of memory
pub cause_is : (refusal : Option LedgerFault) (f : LedgerFault) (why : Refusal) → refusal_of f ≡ Some why → IsCause refusal f → refusal ≡ Some f
cause_is refusal fault.LotKnown why h cause = cause
cause_is refusal fault.LotUnknown why h cause = cause
cause_is refusal fault.ClassUnknown why h cause = cause
cause_is refusal fault.CallUnknown why h cause = cause
cause_is refusal (fault.LotRange value) why h cause = cause
cause_is refusal (fault.LotsFull count) why h cause = cause
cause_is refusal fault.Memory why h cause = absurd (true≢false (sym (ap is_some h)))

-- on each side, whatever the live margin is
pub beside : (on : MarginSide) (old new : Holdings) (l : Traded) (e : SideEvent) (result : Result Reply AllocError) → IfOk result (λ r. (on : MarginSide) (m : Traded) → DoesOn on m m old new e r) → IfOk result (λ r. DoesOn on l l old new e r)
beside on old new l e (Err _) is = tt
beside on old new l e (Ok r) is = is on l

-- an event of no side, whatever the ledgers hold
pub leaves_ledgers : (old new : Traded) (held : Ledgers) (e f : Event) (result : Result Reply AllocError) → e ≡ f → IfOk result (λ r. (h : Ledgers) → Does old new h h f r) → IfOk result (λ r. Does old new held held e r)
leaves_ledgers old new held e f (Err _) same is = tt
leaves_ledgers old new held e f (Ok r) same is = subst (λ x. Does old new held held x r) (sym same) (is held)

-- ---- the trades of a live margin

-- live margins of the same parameters and the same book
pub same_trades : (new old : Live) → new.params ≡ old.params → new.book ≡ old.book → traded new ≡ traded old
same_trades new old params book = λ i. record { params = params i; book = book i }

-- of the same parameters, and another book
pub other_trades : (new old : Live) (trades : List TradeRows) → new.params ≡ old.params → new.book ≡ trades → traded new ≡ record (traded old) { book = trades }
other_trades new old trades params book = λ i. record { params = params i; book = book i }

-- of other parameters, and the same book
pub other_tables : (new old : Live) (params : Params) → new.params ≡ params → new.book ≡ old.book → traded new ≡ record (traded old) { params = params }
other_tables new old params is book = λ i. record { params = is i; book = book i }
