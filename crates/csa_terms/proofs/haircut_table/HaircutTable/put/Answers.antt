use Rattle.std.proofs.Common.{◌∙◌, ◌<◌, ap, sym, subst, length}
use Rattle.csa_terms.specs.Terms.{Haircut}
use Rattle.csa_terms.specs.Held.{haircuts_at, with_haircut}
use Rattle.csa_terms.proofs.Tables.{AreShares-with, haircuts-insert}
use Rattle.std.proofs.Common.{List}
use Rattle.csa_terms.proofs.haircut_table.HaircutTable.put.Goals as goal

pub invariant_of-self-2 : goal.invariant_of-self-2
invariant_of-self-2 c =
    let few : length (haircuts_at c.self.inside.rates.entries) < 256 = subst (λ (hs : List Haircut). length hs < 256) (sym c.self.view_is) c.requires.few in
    rw (c.in_ok-insert.ensures.entries, haircuts-insert c.self.inside.rates.entries c.args.class c.args.rate)
    (AreShares-with (haircuts_at c.self.inside.rates.entries) c.args.class c.args.rate.0 c.self.invariant few c.requires.share)

pub returns-clause-ok : goal.returns-clause-ok
returns-clause-ok c =
    ap haircuts_at c.in_ok-insert.ensures.entries
    ∙ haircuts-insert c.self.inside.rates.entries c.args.class c.args.rate
    ∙ ap (λ hs. with_haircut hs c.args.class c.args.rate.0) c.self.view_is
