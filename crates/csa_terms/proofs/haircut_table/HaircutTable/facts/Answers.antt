use Rattle.std.proofs.lemmas.Map.Keys.{IsDistinct-from_sorted}
use Rattle.toml_values.specs.SimmKinds.Order.{name_cmp}
use Rattle.csa_terms.proofs.Tables.{classes-keys}
use Rattle.csa_terms.proofs.haircut_table.HaircutTable.facts.Goals as goal

pub returns-clause-haircuts : goal.returns-clause-haircuts
returns-clause-haircuts c =
    rw (← c.self.view_is)
    record {
      few = c.self.invariant.few;
      shares = c.self.invariant.shares;
      different = IsDistinct-from_sorted name_cmp _ (rw (classes-keys c.self.inside.rates.entries) c.len-count.ensures.ordered);
    }

pub returns-clause-ascending : goal.returns-clause-ascending
returns-clause-ascending c =
    rw (← c.self.view_is, classes-keys c.self.inside.rates.entries) c.len-count.ensures.ordered
