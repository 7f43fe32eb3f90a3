use Rattle.std.proofs.Common.{◌∙◌, ap}
use Rattle.std.specs.Map.{lookup}
use Rattle.simm_rules.specs.SimmKinds.Order.{same_key}
use Rattle.simm_rules.specs.Net.{sensitivities}
use Rattle.factor_book.specs.Holdings.{rows_in}
use Rattle.factor_book.proofs.Held.{lookup-factors, rows_in-come_to}
use Rattle.factor_book.proofs.factors.Factors.rows.Goals as goal

pub returns-in-Some-clause-held : goal.returns-in-Some-clause-held
returns-in-Some-clause-held c = λ held e.
    let key = c.args.key.now in
    ap rows_in (c.in-Some.ensures ∙ ap (lookup (same_key key)) e ∙ lookup-factors (sensitivities held) key) ∙ rows_in-come_to (sensitivities held) key

pub returns-in-None-clause-held : goal.returns-in-None-clause-held
returns-in-None-clause-held c = λ held e.
    let key = c.args.key.now in
    ap rows_in (c.in-None.ensures ∙ ap (lookup (same_key key)) e ∙ lookup-factors (sensitivities held) key) ∙ rows_in-come_to (sensitivities held) key
