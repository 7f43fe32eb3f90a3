use Rattle.std.proofs.Common.{subst}
use Rattle.collateral_ledger.specs.Holdings.{AreCalls}
use Rattle.collateral_ledger.specs.Kept.{Called}
use Rattle.collateral_ledger.proofs.Numbers.{are_calls}
use Rattle.collateral_ledger.proofs.calls.Calls.facts.Goals as goal

pub returns : goal.returns
returns c =
    subst (λ (b : Called). AreCalls b.added b.calls) c.self.view_is (are_calls c.self.inside.added c.self.inside.settled c.self.inside.outstanding.entries c.self.invariant c.len-count.ensures.ordered)
