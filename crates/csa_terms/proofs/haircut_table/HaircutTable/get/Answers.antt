use Rattle.std.proofs.Common.{◌∙◌, ap, option_map}
use Rattle.toml_values.specs.MhUnits.declared.quantities.Rate4.{Rate4}
use Rattle.csa_terms.specs.Terms.{haircut_in}
use Rattle.csa_terms.proofs.Tables.{lookup-haircuts}
use Rattle.csa_terms.proofs.haircut_table.HaircutTable.get.Goals as goal

pub returns : goal.returns
returns c =
    ap (option_map (λ (r : Rate4). r.0)) (c.copied.ensures ∙ c.get.ensures.value)
    ∙ lookup-haircuts c.args.class.now c.self.inside.rates.entries
    ∙ ap (λ hs. haircut_in hs c.args.class.now) c.self.view_is
