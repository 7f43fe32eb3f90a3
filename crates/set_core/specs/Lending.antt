-- The ledger of a side, lent to be changed.
use Rattle.std.specs.Borrow.{Lends, MutBor, Fml}
use Rattle.collateral_ledger.specs.SimmKinds.declared.margin_side.MarginSide.{MarginSide}
use Rattle.collateral_ledger.specs.Holdings.{Holdings}
use Rattle.collateral_ledger.specs.contracts.ledger.Ledger.{the_row as ledger_row}
use Rattle.set_core.specs.declared.ledgers.Ledgers.{Ledgers}
use Rattle.set_core.specs.contracts.ledgers.Ledgers.{the_row as ledgers_row}
use Rattle.set_core.specs.Ledger.{with_ledger}

-- the ledgers end with what is left in the one that was lent
abbrev pub LendsLedger : MutBor Ledgers → MarginSide → MutBor Holdings → Fml
LendsLedger held on r = Lends ledgers_row ledger_row held r (λ ledger. with_ledger on ledger held.now)
