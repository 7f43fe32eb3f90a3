use Rattle.std.proofs.Common.{◌∙◌}
use Rattle.measured_bucket.specs.SimmRules.AddOns.{notional_factor}
use Rattle.class_combine.proofs.Rows.{row_in_range}
use Rattle.class_combine.specs.Notionals.{size_at}
use Rattle.explain_text.specs.Lines.{notional_line}
use Rattle.explain_text.proofs.Pieces.{row_step}
use Rattle.explain_text.proofs.add_on_lines.push_notionals.Goals as goal

pub push_row_notional-requires-clause-row : goal.push_row_notional-requires-clause-row
push_row_notional-requires-clause-row c = row_in_range c.args.parameters.now c.loop-row.row-index c.row-item.result c.loop-row-test.true c.row-item.is c.requires.ranged

pub loop-row-preserved : goal.loop-row-preserved
loop-row-preserved c =
    row_step (notional_line (size_at c.args.sums.now.notionals)) notional_factor c.args.parameters.now c.loop-row.row-index c.row-item.result c.loop-row.text c.push_row_notional.new.text
    c.loop-row-test.true c.row-item.is c.in_ok-push_row_notional.ensures
    ∙ c.loop-row.invariant
