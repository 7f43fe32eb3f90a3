use Rattle.std.proofs.Common.{rules, ◌≡◌, ℕ, ◌^◌, Result, Ok, Err, IfOk, refl, false, sym, ap, ◌∙◌, subst, arith, ℤ, pos, ◌≤ℤ◌, ◌<ℤ◌, true, FitsSigned, w32, to_z, of_z}
use Rattle.std.specs.Int.{w128}
use Rattle.std.proofs.lemmas.Int.{ints, to_z-of_z}
use Rattle.collateral_ledger.proofs.MhUnits.Integers.{same128}
use Rattle.collateral_ledger.specs.CsaTerms.Calendar.{due_day}
use Rattle.csa_calls.specs.declared.CallAmount.{CallAmount}
use Rattle.csa_calls.specs.declared.CallAmount.TheVariants as amount
use Rattle.bucket_cache.specs.Live.{Live}
use Rattle.set_core.specs.Answer.{is_calling_day, noted}
use Rattle.set_core.specs.declared.event.Event.{Event}
use Rattle.set_core.specs.declared.reply.Reply.{Reply}
use Rattle.std.specs.declared.alloc.AllocError.{AllocError}
use Rattle.side_events.specs.declared.side_event.SideEvent.TheVariants as side
use Rattle.set_core.specs.declared.event.Event.TheVariants as event
use Rattle.set_core.specs.Live.{traded, IsWorkedOut, StaysKept, Caches}
use Rattle.set_core.proofs.Applies.{is_settled}
use Rattle.set_core.proofs.Caching.{caches_all}
use Rattle.set_core.proofs.Demands.{is_found, demand_does, on_err}
use Rattle.set_core.proofs.calling.ask_call.Goals as goal

-- the total as it is passed on
total_is : (total : ℤ) → pos 0 ≤ℤ total → total <ℤ pos (10 ^ 21) → to_z w128 (of_z w128 total) ≡ total
total_is total low high = same128 total (omega (arith, ints, low, high))

pub call_on-requires-clause-margin_from : goal.call_on-requires-clause-margin_from
call_on-requires-clause-margin_from c = subst (λ total. pos 0 ≤ℤ total) (sym (total_is c.in_ok-margin.field-0.total.0 c.in_ok-margin.ensures.total_from c.in_ok-margin.ensures.total_below)) c.in_ok-margin.ensures.total_from

pub call_on-requires-clause-margin_to : goal.call_on-requires-clause-margin_to
call_on-requires-clause-margin_to c =
    let within : c.in_ok-margin.field-0.total.0 ≤ℤ pos (10 ^ 21) = omega (arith, ints, c.in_ok-margin.ensures.total_below) in
    subst (λ total. total ≤ℤ pos (10 ^ 21)) (sym (total_is c.in_ok-margin.field-0.total.0 c.in_ok-margin.ensures.total_from c.in_ok-margin.ensures.total_below)) within

pub returns-clause-trades : goal.returns-clause-trades
returns-clause-trades c = on_err c.call_on.result c.in_ok-margin.ensures.trades

pub returns-clause-does : goal.returns-clause-does
returns-clause-does c =
    let found : (is_calling_day c.args.moment.day ≡ true) × (c.in-Some.due ≡ due_day c.args.moment c.terms.result.now) = is_found (is_calling_day c.args.moment.day) c.in-Some.due (due_day c.args.moment c.terms.result.now) c.in-Some.ensures in
    let due_fits : FitsSigned w32 c.in-Some.due = search rules in
    let booked_fits : FitsSigned w128 c.booked-booked.result = search rules in
    demand_does c.args.side (traded c.args.live.now) _ c.args.ledger.now c.call_on.new.ledger c.args.moment
    (to_z w32 (of_z w32 c.in-Some.due)) (to_z w128 (of_z w128 c.in_ok-margin.field-0.total.0)) (to_z w128 (of_z w128 c.booked-booked.result))
    c.in_ok-margin.ensures.trades
    found.0
    (to_z-of_z w32 c.in-Some.due due_fits ∙ found.1 ∙ ap (due_day c.args.moment) c.terms.ensures)
    (total_is c.in_ok-margin.field-0.total.0 c.in_ok-margin.ensures.total_from c.in_ok-margin.ensures.total_below ∙ ap (λ b. b.total.0) c.in_ok-margin.ensures.value)
    (same128 c.booked-booked.result booked_fits ∙ c.booked-booked.ensures.value)
    c.call_on.result c.call_on.ensures.value c.call_on.ensures.after

noted_asked : (made : ℕ) (due margin booked : ℤ) (a : CallAmount) → is_settled (noted made due margin booked a) ≡ false
noted_asked made due margin booked (amount.Delivery cents) = refl
noted_asked made due margin booked (amount.Return cents) = refl
noted_asked made due margin booked (amount.Nothing excess) = refl

caches_call : (old new : Live) (e : Event) (made : ℕ) (due margin booked : ℤ) (a : CallAmount) (result : Result Reply AllocError) → IfOk result (λ r. r ≡ noted made due margin booked a)
    → traded new ≡ traded old → IsWorkedOut new → StaysKept old new → IfOk result (Caches old new e)
caches_call old new e made due margin booked a (Err x) value same out stays = tt
caches_call old new e made due margin booked a (Ok r) value same out stays = caches_all old new e r (ap is_settled value ∙ noted_asked made due margin booked a) same out stays

pub returns-clause-caches : goal.returns-clause-caches
returns-clause-caches c =
    caches_call c.args.live.now c.ask_margin.new.live (event.OnSide c.args.side (side.AskCall c.args.moment)) _ _ _ _ _ c.call_on.result c.call_on.ensures.value
    c.in_ok-margin.ensures.trades c.in_ok-margin.ensures.all c.in_ok-margin.ensures.stays

pub returns-clause-stays : goal.returns-clause-stays
returns-clause-stays c = on_err c.call_on.result c.in_ok-margin.ensures.stays
