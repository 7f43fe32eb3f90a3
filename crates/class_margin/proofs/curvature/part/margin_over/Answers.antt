use Rattle.std.proofs.Common.{◌≤◌, sym, subst, unsigned_abs}
use Rattle.std.specs.Prelude.{sum_by}
use Rattle.std.proofs.lemmas.Int.{to_z-of_z}
use Rattle.class_rates.specs.SimmRules.declared.values.BucketMargin.{BucketMargin}
use Rattle.class_margin.proofs.curvature.Totals.{first_size, total_step}
use Rattle.class_margin.proofs.curvature.part.margin_over.Goals as goal

pub overflow_add-margin : goal.overflow_add-margin
overflow_add-margin c =
    let step = total_step (λ (b : BucketMargin). b.k) c.args.values.now c.loop-value.value-index _ c.requires c.loop-value-test.true c.loop-value.invariant in
    let own = step.own in
    simp to_z-of_z step.both

pub loop-value-preserved : goal.loop-value-preserved
loop-value-preserved c =
    let step = total_step (λ (b : BucketMargin). b.k) c.args.values.now c.loop-value.value-index _ c.requires c.loop-value-test.true c.loop-value.invariant in
    let own = step.own in
    let both = step.both in
    simp to_z-of_z step.value

pub returns-clause-size : goal.returns-clause-size
returns-clause-size c =
    subst (λ z. unsigned_abs z ≤ sum_by (λ (b : BucketMargin). unsigned_abs b.k) c.args.values.now) (sym c.loop-value.invariant) (first_size (λ (b : BucketMargin). b.k) c.args.values.now c.loop-value.value-index)
