use Rattle.std.proofs.lemmas.Int.{to_z-of_z}
use Rattle.class_rates.specs.SimmRules.declared.values.BucketMargin.{BucketMargin}
use Rattle.class_margin.proofs.curvature.Totals.{total_step}
use Rattle.class_margin.proofs.curvature.part.sum_over.Goals as goal

pub overflow_add-sum : goal.overflow_add-sum
overflow_add-sum c =
    let step = total_step (λ (b : BucketMargin). b.sum) c.args.values.now c.loop-value.value-index _ c.requires c.loop-value-test.true c.loop-value.invariant in
    let own = step.own in
    simp to_z-of_z step.both

pub loop-value-preserved : goal.loop-value-preserved
loop-value-preserved c =
    let step = total_step (λ (b : BucketMargin). b.sum) c.args.values.now c.loop-value.value-index _ c.requires c.loop-value-test.true c.loop-value.invariant in
    let own = step.own in
    let both = step.both in
    simp to_z-of_z step.value
