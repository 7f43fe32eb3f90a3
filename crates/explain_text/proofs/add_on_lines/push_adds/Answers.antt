use Rattle.std.specs.List.{flat_map}
use Rattle.measured_bucket.specs.SimmRules.AddOns.{multiplier, notional_factor}
use Rattle.measured_bucket.specs.SimmRules.Parts.{product_part}
use Rattle.class_combine.specs.Notionals.{size_at}
use Rattle.breakdown_text.proofs.Pieces.{three_pieces}
use Rattle.breakdown_text.specs.Margins.{add_on_lines}
use Rattle.explain_text.specs.Lines.{notional_line, multiplier_line}
use Rattle.explain_text.proofs.add_on_lines.push_adds.Goals as goal

pub returns : goal.returns
returns c =
    let f = c.args.figures.now in
    three_pieces (flat_map (notional_line (size_at f.add_ons.notionals)) (flat_map notional_factor c.args.parameters.now))
    (flat_map (multiplier_line (λ product. (product_part f.margin product).margin.0)) (flat_map multiplier c.args.parameters.now)) (add_on_lines f.margin)
    c.args.text.now c.push_notionals.new.text c.push_multipliers.new.text c.push_add_ons.new.text
    c.in_ok-push_notionals.ensures c.in_ok-push_multipliers.ensures c.in_ok-push_add_ons.ensures
