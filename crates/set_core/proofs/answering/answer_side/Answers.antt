use Rattle.std.proofs.Common.{rules, refl, sym, ap, ◌∙◌, subst, IfOk, ℤ, FitsSigned, w64, to_z, of_z}
use Rattle.collateral_ledger.proofs.MhUnits.Integers.{same64}
use Rattle.side_events.specs.declared.side_event.SideEvent.{SideEvent}
use Rattle.side_events.specs.declared.side_event.SideEvent.TheVariants as side
use Rattle.set_core.specs.declared.event.Event.TheVariants as event
use Rattle.set_core.specs.declared.reply.Reply.TheVariants as reply
use Rattle.collateral_ledger.specs.Refusals.{put_refusal, take_refusal, mark_refusal, close_refusal}
use Rattle.set_core.specs.Live.{Caches, DoesOn, traded}
use Rattle.set_core.proofs.Caching.{caches_all, caches_beside, ledger_settled}
use Rattle.set_core.proofs.Demands.{on_err}
use Rattle.set_core.proofs.Changes.{beside}
use Rattle.set_core.proofs.answering.answer_side.Goals as goal

pub returns-in_ok-make-in-AskMargin-clause-does : goal.returns-in_ok-make-in-AskMargin-clause-does
returns-in_ok-make-in-AskMargin-clause-does c =
    subst (λ e. DoesOn c.args.side (traded c.args.live.now) (traded c.ask_margin.new.live) c.args.ledger.now c.args.ledger.now e (reply.Margin c.in_ok-make-in-AskMargin.field-0)) (sym c.in-AskMargin.is)
    (record { value = ap reply.Margin (c.in_ok-make-in-AskMargin.ensures.value ∙ c.in_ok-parts-in-AskMargin.ensures.value); live = c.in_ok-parts-in-AskMargin.ensures.trades; ledger = refl })

pub returns-in-PutLot-clause-does : goal.returns-in-PutLot-clause-does
returns-in-PutLot-clause-does c =
    let fits : FitsSigned w64 c.in-PutLot.value = search rules in
    let put : ℤ → SideEvent = λ value. side.PutLot c.in-PutLot.lot c.in-PutLot.class value c.in-PutLot.currency in
    subst (λ e. IfOk c.put.result (λ r. DoesOn c.args.side (traded c.args.live.now) (traded c.args.live.now) c.args.ledger.now c.put.new.ledger e r)) (ap put (same64 c.in-PutLot.value fits) ∙ sym c.in-PutLot.is)
    (beside c.args.side c.args.ledger.now c.put.new.ledger (traded c.args.live.now) (put (to_z w64 (of_z w64 c.in-PutLot.value))) c.put.result c.put.ensures.does)

pub returns-in-TakeLot-clause-does : goal.returns-in-TakeLot-clause-does
returns-in-TakeLot-clause-does c =
    subst (λ e. IfOk c.take.result (λ r. DoesOn c.args.side (traded c.args.live.now) (traded c.args.live.now) c.args.ledger.now c.take.new.ledger e r)) (sym c.in-TakeLot.is)
    (beside c.args.side c.args.ledger.now c.take.new.ledger (traded c.args.live.now) (side.TakeLot c.in-TakeLot.lot) c.take.result c.take.ensures.does)

pub returns-in-MarkLot-clause-does : goal.returns-in-MarkLot-clause-does
returns-in-MarkLot-clause-does c =
    let fits : FitsSigned w64 c.in-MarkLot.value = search rules in
    let mark : ℤ → SideEvent = λ value. side.MarkLot c.in-MarkLot.lot value in
    subst (λ e. IfOk c.mark.result (λ r. DoesOn c.args.side (traded c.args.live.now) (traded c.args.live.now) c.args.ledger.now c.mark.new.ledger e r)) (ap mark (same64 c.in-MarkLot.value fits) ∙ sym c.in-MarkLot.is)
    (beside c.args.side c.args.ledger.now c.mark.new.ledger (traded c.args.live.now) (mark (to_z w64 (of_z w64 c.in-MarkLot.value))) c.mark.result c.mark.ensures.does)

pub returns-in-CloseCall-clause-does : goal.returns-in-CloseCall-clause-does
returns-in-CloseCall-clause-does c =
    subst (λ e. IfOk c.close.result (λ r. DoesOn c.args.side (traded c.args.live.now) (traded c.args.live.now) c.args.ledger.now c.close.new.ledger e r)) (sym c.in-CloseCall.is)
    (beside c.args.side c.args.ledger.now c.close.new.ledger (traded c.args.live.now) (side.CloseCall c.in-CloseCall.number) c.close.result c.close.ensures.does)

pub returns-in_ok-make-in-AskMargin-clause-caches : goal.returns-in_ok-make-in-AskMargin-clause-caches
returns-in_ok-make-in-AskMargin-clause-caches c =
    caches_all c.args.live.now c.ask_margin.new.live (event.OnSide c.args.side c.args.event.now) (reply.Margin c.in_ok-make-in-AskMargin.field-0) refl c.in_ok-parts-in-AskMargin.ensures.trades
    c.in_ok-parts-in-AskMargin.ensures.all c.in_ok-parts-in-AskMargin.ensures.stays

pub returns-in_err-make-in-AskMargin-clause-stays : goal.returns-in_err-make-in-AskMargin-clause-stays
returns-in_err-make-in-AskMargin-clause-stays c =
    on_err c.from_residual-in_err-make-in-AskMargin.result c.in_ok-parts-in-AskMargin.ensures.stays

pub returns-in-PutLot-clause-caches : goal.returns-in-PutLot-clause-caches
returns-in-PutLot-clause-caches c =
    let fits : FitsSigned w64 c.in-PutLot.value = search rules in
    let put : ℤ → SideEvent = λ value. side.PutLot c.in-PutLot.lot c.in-PutLot.class value c.in-PutLot.currency in
    let value = to_z w64 (of_z w64 c.in-PutLot.value) in
    subst (λ e. IfOk c.put.result (Caches c.args.live.now c.args.live.now (event.OnSide c.args.side e))) (ap put (same64 c.in-PutLot.value fits) ∙ sym c.in-PutLot.is)
    (caches_beside c.args.side c.args.ledger.now c.put.new.ledger c.args.live.now (put value) c.put.result (ledger_settled (put_refusal c.args.ledger.now c.in-PutLot.lot c.in-PutLot.class value)) c.put.ensures.does)

pub returns-in-TakeLot-clause-caches : goal.returns-in-TakeLot-clause-caches
returns-in-TakeLot-clause-caches c =
    subst (λ e. IfOk c.take.result (Caches c.args.live.now c.args.live.now (event.OnSide c.args.side e))) (sym c.in-TakeLot.is)
    (caches_beside c.args.side c.args.ledger.now c.take.new.ledger c.args.live.now (side.TakeLot c.in-TakeLot.lot) c.take.result (ledger_settled (take_refusal c.args.ledger.now c.in-TakeLot.lot)) c.take.ensures.does)

pub returns-in-MarkLot-clause-caches : goal.returns-in-MarkLot-clause-caches
returns-in-MarkLot-clause-caches c =
    let fits : FitsSigned w64 c.in-MarkLot.value = search rules in
    let mark : ℤ → SideEvent = λ value. side.MarkLot c.in-MarkLot.lot value in
    let value = to_z w64 (of_z w64 c.in-MarkLot.value) in
    subst (λ e. IfOk c.mark.result (Caches c.args.live.now c.args.live.now (event.OnSide c.args.side e))) (ap mark (same64 c.in-MarkLot.value fits) ∙ sym c.in-MarkLot.is)
    (caches_beside c.args.side c.args.ledger.now c.mark.new.ledger c.args.live.now (mark value) c.mark.result (ledger_settled (mark_refusal c.args.ledger.now c.in-MarkLot.lot value)) c.mark.ensures.does)

pub returns-in-CloseCall-clause-caches : goal.returns-in-CloseCall-clause-caches
returns-in-CloseCall-clause-caches c =
    subst (λ e. IfOk c.close.result (Caches c.args.live.now c.args.live.now (event.OnSide c.args.side e))) (sym c.in-CloseCall.is)
    (caches_beside c.args.side c.args.ledger.now c.close.new.ledger c.args.live.now (side.CloseCall c.in-CloseCall.number) c.close.result (ledger_settled (close_refusal c.args.ledger.now c.in-CloseCall.number)) c.close.ensures.does)
