use Rattle.std.proofs.Common.{◌≡◌, Some, refl, subst, IfOk, ℤ, w64, to_z, of_z}
use Rattle.collateral_ledger.proofs.MhUnits.Integers.{same64}
use Rattle.collateral_ledger.specs.SimmKinds.declared.margin_side.MarginSide.{MarginSide}
use Rattle.set_core.specs.Live.{Traded, DoesOn}
use Rattle.collateral_ledger.specs.Changes.{with_value}
use Rattle.collateral_ledger.specs.Refusals.{mark_refusal}
use Rattle.side_events.specs.declared.side_event.SideEvent.TheVariants as side
use Rattle.set_core.proofs.Changes.{change_does}
use Rattle.set_core.proofs.collateral.mark.Goals as goal

-- the value as it is passed on
abbrev sent : goal.After-reply_to → ℤ
sent c = to_z w64 (of_z w64 c.args.value)

pub returns-clause-does : goal.returns-clause-does
returns-clause-does c =
    subst (λ value. IfOk c.reply_to.result (λ r. (on : MarginSide) (l : Traded) → DoesOn on l l c.args.ledger.now c.mark_lot-change.new.self (side.MarkLot c.args.lot.now value) r)) (same64 c.args.value c.ranges.value)
    (change_does (λ f. mark_refusal c.args.ledger.now c.args.lot.now (sent c) ≡ Some f) c.args.ledger.now c.mark_lot-change.new.self (record c.args.ledger.now { lots = with_value c.args.lot.now (sent c) c.args.ledger.now.lots })
    (mark_refusal c.args.ledger.now c.args.lot.now (sent c)) (side.MarkLot c.args.lot.now (sent c))
    (λ f why is cause. cause) (λ on l. refl) refl (λ why. refl)
    c.mark_lot-change.result c.mark_lot-change.ensures.answer c.mark_lot-change.ensures.ok c.mark_lot-change.ensures.err c.reply_to.result c.reply_to.ensures.reply)
