use Rattle.std.proofs.Common.{arith}
use Rattle.std.proofs.lemmas.Int.{to_z-of_z}
use Rattle.weighted_bucket.proofs.WeightedSums.{sum_step, sum_is, sum_size}
use Rattle.weighted_bucket.proofs.sums.sum.Goals as goal

pub overflow_add-sum : goal.overflow_add-sum
overflow_add-sum c =
    let step = sum_step c.args.factors.now c.loop-factor.factor-index _ c.requires c.loop-factor-test.true c.loop-factor.invariant in
    let own = step.own in
    simp to_z-of_z step.both

pub loop-factor-preserved : goal.loop-factor-preserved
loop-factor-preserved c =
    let step = sum_step c.args.factors.now c.loop-factor.factor-index _ c.requires c.loop-factor-test.true c.loop-factor.invariant in
    let own = step.own in
    let both = step.both in
    simp to_z-of_z step.value

pub returns-clause-value : goal.returns-clause-value
returns-clause-value c = sum_is c.args.factors.now c.loop-factor.factor-index _ (omega arith) c.loop-factor.invariant

pub returns-clause-size : goal.returns-clause-size
returns-clause-size c = sum_size c.args.factors.now c.loop-factor.factor-index _ (omega arith) c.loop-factor.invariant
