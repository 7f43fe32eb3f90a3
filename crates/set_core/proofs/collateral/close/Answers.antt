use Rattle.std.proofs.Common.{◌≡◌, Some, refl}
use Rattle.collateral_ledger.specs.Changes.{without_call}
use Rattle.collateral_ledger.specs.Refusals.{close_refusal}
use Rattle.side_events.specs.declared.side_event.SideEvent.TheVariants as side
use Rattle.set_core.proofs.Changes.{change_does}
use Rattle.set_core.proofs.collateral.close.Goals as goal

pub returns-clause-does : goal.returns-clause-does
returns-clause-does c =
    change_does (λ f. close_refusal c.args.ledger.now c.args.number ≡ Some f) c.args.ledger.now c.close_call-change.new.self (record c.args.ledger.now { calls = without_call c.args.number c.args.ledger.now.calls })
    (close_refusal c.args.ledger.now c.args.number) (side.CloseCall c.args.number)
    (λ f why is cause. cause) (λ on l. refl) refl (λ why. refl)
    c.close_call-change.result c.close_call-change.ensures.answer c.close_call-change.ensures.ok c.close_call-change.ensures.err c.reply_to.result c.reply_to.ensures.reply
