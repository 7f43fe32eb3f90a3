use Rattle.std.proofs.Common.{◌≡◌, Some, refl}
use Rattle.collateral_ledger.specs.Changes.{without_lot}
use Rattle.collateral_ledger.specs.Refusals.{take_refusal}
use Rattle.side_events.specs.declared.side_event.SideEvent.TheVariants as side
use Rattle.set_core.proofs.Changes.{change_does}
use Rattle.set_core.proofs.collateral.take.Goals as goal

pub returns-clause-does : goal.returns-clause-does
returns-clause-does c =
    change_does (λ f. take_refusal c.args.ledger.now c.args.lot.now ≡ Some f) c.args.ledger.now c.take_lot-change.new.self (record c.args.ledger.now { lots = without_lot c.args.lot.now c.args.ledger.now.lots })
    (take_refusal c.args.ledger.now c.args.lot.now) (side.TakeLot c.args.lot.now)
    (λ f why is cause. cause) (λ on l. refl) refl (λ why. refl)
    c.take_lot-change.result c.take_lot-change.ensures.answer c.take_lot-change.ensures.ok c.take_lot-change.ensures.err c.reply_to.result c.reply_to.ensures.reply
