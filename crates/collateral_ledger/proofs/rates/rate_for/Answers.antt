use Rattle.std.proofs.Common.{sym}
use Rattle.collateral_ledger.proofs.Shares.{share_of}
use Rattle.collateral_ledger.proofs.rates.rate_for.Goals as goal

pub rate_after-requires-clause-haircut : goal.rate_after-requires-clause-haircut
rate_after-requires-clause-haircut c = share_of c.args.terms.now.haircuts c.args.class.now _ c.facts.ensures.haircuts.shares (sym c.in_ok-haircut.ensures)
