use Rattle.std.proofs.Common.{rules}
use Rattle.collateral_ledger.proofs.Numbers.{settled_is}
use Rattle.collateral_ledger.proofs.calls.Calls.settled.Goals as goal

pub returns : goal.returns
returns c =
    let h = settled_is c.self.inside.added c.self.inside.settled c.self.inside.outstanding.entries c.args.self.now c.self.view_is c.self.invariant (search rules) in
    record { value = h.value; size = h.size; few = h.few; fits = h.fits }
