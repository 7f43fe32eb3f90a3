use Rattle.std.proofs.Common.{rules, ap, ◌∙◌, ◌++◌, FitsSigned}
use Rattle.std.proofs.lemmas.Int.{to_z-of_z}
use Rattle.std.specs.Int.{w128}
use Rattle.std.specs.Prelude.{codes}
use Rattle.fault_text.specs.Fields.{field, amount_line}
use Rattle.breakdown_text.proofs.Pieces.{three_pieces}
use Rattle.breakdown_text.proofs.breakdown_lines.push_add_ons.Goals as goal

pub returns : goal.returns
returns c =
    let b = c.args.margin.now in
    let fixed_fits : FitsSigned w128 b.fixed.0 = search rules in
    let notional_fits : FitsSigned w128 b.notional.0 = search rules in
    let multiplier_fits : FitsSigned w128 b.multiplier.0 = search rules in
    three_pieces (amount_line (field (codes "FIXED")) b.fixed.0) (amount_line (field (codes "NOTIONAL")) b.notional.0) (amount_line (field (codes "MULTIPLIER")) b.multiplier.0)
    c.args.text.now c.push_add_on.new.text c.push_add_on-2.new.text c.push_add_on-3.new.text
    (c.in_ok-push_add_on.ensures ∙ ap (λ z. c.args.text.now ++ amount_line (field (codes "FIXED")) z) (to_z-of_z w128 b.fixed.0 fixed_fits))
    (c.in_ok-push_add_on-2.ensures ∙ ap (λ z. c.push_add_on.new.text ++ amount_line (field (codes "NOTIONAL")) z) (to_z-of_z w128 b.notional.0 notional_fits))
    (c.in_ok-push_add_on-3.ensures ∙ ap (λ z. c.push_add_on-2.new.text ++ amount_line (field (codes "MULTIPLIER")) z) (to_z-of_z w128 b.multiplier.0 multiplier_fits))
