use Rattle.collateral_ledger.proofs.Entries.{counted_is, counted_size}
use Rattle.collateral_ledger.proofs.lots.Lots.counted.Goals as goal

pub returns-clause-value : goal.returns-clause-value
returns-clause-value c = counted_is c.self.inside.next_place c.self.inside.counted c.self.inside.by_name.entries c.args.self.now c.self.view_is c.self.invariant

pub returns-clause-size : goal.returns-clause-size
returns-clause-size c = counted_size c.self.inside.next_place c.self.inside.counted c.self.inside.by_name.entries c.self.invariant
