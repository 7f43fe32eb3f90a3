use Rattle.std.proofs.Common.{sym, ap, ◌∙◌, length}
use Rattle.collateral_ledger.proofs.Entries.{length-lots_at}
use Rattle.collateral_ledger.proofs.lots.Lots.len.Goals as goal

pub returns : goal.returns
returns c = c.len.ensures.len ∙ sym (length-lots_at c.self.inside.by_name.entries) ∙ ap length c.self.view_is
