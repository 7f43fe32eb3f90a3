use Rattle.std.proofs.Common.{◌∙◌, ap, FitsSigned, rules}
use Rattle.std.specs.Int.{w128}
use Rattle.std.specs.Map.{lookup}
use Rattle.simm_rules.proofs.MhUnits.Integers.{same128}
use Rattle.simm_rules.specs.SimmKinds.Order.{same_key}
use Rattle.simm_rules.specs.Net.{sensitivities}
use Rattle.factor_book.specs.Holdings.{net_in}
use Rattle.factor_book.proofs.Held.{lookup-factors, net_in-come_to}
use Rattle.factor_book.proofs.factors.Factors.net.Goals as goal

pub returns-in-Some : goal.returns-in-Some
returns-in-Some c = λ held e.
    let key = c.args.key.now in
    let fits : FitsSigned w128 c.in-Some.holding.net = search rules in
    same128 c.in-Some.holding.net fits
    ∙ ap net_in (c.in-Some.ensures ∙ ap (lookup (same_key key)) e ∙ lookup-factors (sensitivities held) key) ∙ net_in-come_to (sensitivities held) key

pub returns-in-None : goal.returns-in-None
returns-in-None c = λ held e.
    let key = c.args.key.now in
    ap net_in (c.in-None.ensures ∙ ap (lookup (same_key key)) e ∙ lookup-factors (sensitivities held) key) ∙ net_in-come_to (sensitivities held) key
