use Rattle.std.proofs.Common.{ap, ◌∙◌}
use Rattle.collateral_ledger.specs.Changes.{has_lot}
use Rattle.collateral_ledger.proofs.Entries.{has_lot-lots_at}
use Rattle.collateral_ledger.proofs.lots.Lots.has.Goals as goal

pub returns : goal.returns
returns c = c.contains_key.ensures ∙ has_lot-lots_at c.args.name.now c.self.inside.by_name.entries ∙ ap (has_lot c.args.name.now) c.self.view_is
