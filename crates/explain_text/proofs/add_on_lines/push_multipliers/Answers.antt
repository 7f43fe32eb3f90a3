use Rattle.std.proofs.Common.{◌∙◌}
use Rattle.measured_bucket.specs.SimmRules.AddOns.{multiplier}
use Rattle.measured_bucket.specs.SimmRules.Parts.{product_part}
use Rattle.class_combine.proofs.Rows.{row_in_range}
use Rattle.explain_text.specs.Lines.{multiplier_line}
use Rattle.explain_text.proofs.Pieces.{row_step}
use Rattle.explain_text.proofs.add_on_lines.push_multipliers.Goals as goal

pub push_row_multiplier-requires-clause-row : goal.push_row_multiplier-requires-clause-row
push_row_multiplier-requires-clause-row c = row_in_range c.args.parameters.now c.loop-row.row-index c.row-item.result c.loop-row-test.true c.row-item.is c.requires.amounts

pub loop-row-preserved : goal.loop-row-preserved
loop-row-preserved c =
    row_step (multiplier_line (λ product. (product_part c.args.margin.now product).margin.0)) multiplier c.args.parameters.now c.loop-row.row-index c.row-item.result c.loop-row.text c.push_row_multiplier.new.text
    c.loop-row-test.true c.row-item.is c.in_ok-push_row_multiplier.ensures
    ∙ c.loop-row.invariant
