use Rattle.std.proofs.Common.{subst}
use Rattle.collateral_ledger.specs.Holdings.{AreLots}
use Rattle.collateral_ledger.proofs.Entries.{are_lots}
use Rattle.collateral_ledger.proofs.lots.Lots.facts.Goals as goal

pub returns : goal.returns
returns c = subst AreLots c.self.view_is (are_lots c.self.inside.next_place c.self.inside.counted c.self.inside.by_name.entries c.self.invariant c.len-count.ensures.ordered)
