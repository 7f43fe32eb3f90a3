use Rattle.std.proofs.Common.{◌∙◌, FitsSigned, rules}
use Rattle.std.specs.Int.{w128}
use Rattle.class_rates.proofs.MhUnits.Integers.{same128}
use Rattle.class_margin.proofs.names_delta.Parts.{residual_step}
use Rattle.class_margin.proofs.names_delta.across.residual.Goals as goal

pub overflow_add-total : goal.overflow_add-total
overflow_add-total c =
    let fits : FitsSigned w128 c.residual_margin-total.result = search rules in
    (residual_step c.args.parts.now c.loop-part.part-index c.part-item.result _ _ c.requires c.loop-part-test.true c.part-item.is c.loop-part.invariant (same128 c.residual_margin-total.result fits ∙ c.residual_margin-total.ensures)).both

pub loop-part-preserved : goal.loop-part-preserved
loop-part-preserved c =
    let fits : FitsSigned w128 c.residual_margin-total.result = search rules in
    let step = residual_step c.args.parts.now c.loop-part.part-index c.part-item.result _ _ c.requires c.loop-part-test.true c.part-item.is c.loop-part.invariant (same128 c.residual_margin-total.result fits ∙ c.residual_margin-total.ensures) in
    same128 _ step.both ∙ step.value
