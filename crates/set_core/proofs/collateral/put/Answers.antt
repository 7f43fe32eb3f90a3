use Rattle.std.proofs.Common.{◌∷◌, ◌++◌, [], refl, subst, IfOk, ℤ, w64, to_z, of_z}
use Rattle.collateral_ledger.proofs.MhUnits.Integers.{same64}
use Rattle.collateral_ledger.specs.SimmKinds.declared.margin_side.MarginSide.{MarginSide}
use Rattle.set_core.specs.Live.{Traded, DoesOn}
use Rattle.collateral_ledger.specs.Booked.{rate_of}
use Rattle.collateral_ledger.specs.Refusals.{IsCause, put_refusal}
use Rattle.side_events.specs.declared.side_event.SideEvent.TheVariants as side
use Rattle.set_core.proofs.Changes.{change_does, cause_is}
use Rattle.set_core.proofs.collateral.put.Goals as goal

-- the value as it is passed on
abbrev sent : goal.After-reply_to → ℤ
sent c = to_z w64 (of_z w64 c.args.value)

pub returns-clause-does : goal.returns-clause-does
returns-clause-does c =
    subst (λ value. IfOk c.reply_to.result (λ r. (on : MarginSide) (l : Traded) → DoesOn on l l c.args.ledger.now c.put_lot-change.new.self (side.PutLot c.args.lot.now c.args.class.now value c.args.currency) r)) (same64 c.args.value c.ranges.value)
    (change_does (IsCause (put_refusal c.args.ledger.now c.args.lot.now c.args.class.now (sent c))) c.args.ledger.now c.put_lot-change.new.self (record c.args.ledger.now { lots = c.args.ledger.now.lots ++ record { name = c.args.lot.now; value = (sent c); rate = rate_of c.args.ledger.now.terms c.args.class.now c.args.currency } ∷ [] })
    (put_refusal c.args.ledger.now c.args.lot.now c.args.class.now (sent c)) (side.PutLot c.args.lot.now c.args.class.now (sent c) c.args.currency)
    (cause_is (put_refusal c.args.ledger.now c.args.lot.now c.args.class.now (sent c))) (λ on l. refl) refl (λ why. refl)
    c.put_lot-change.result c.put_lot-change.ensures.answer c.put_lot-change.ensures.ok c.put_lot-change.ensures.err c.reply_to.result c.reply_to.ensures.reply)
