use Rattle.std.proofs.Common.{unsigned_abs}
use Rattle.std.proofs.lemmas.Int.{to_z-of_z}
use Rattle.class_rates.specs.Weighing.{group_part}
use Rattle.class_rates.proofs.RateColumns.{part_size}
use Rattle.class_rates.proofs.Sums.{sum_step}
use Rattle.class_rates.proofs.delta.group_net.Goals as goal

pub overflow_add-sum : goal.overflow_add-sum
overflow_add-sum c =
    let step = sum_step group_part (λ n. unsigned_abs n.net) part_size c.args.rates.now c.loop-net.net-index _ c.loop-net-test.true _ c.group_part-sum.result c.requires c.loop-net.invariant c.group_part-sum.ensures in
    let own = step.own in
    simp to_z-of_z step.both

pub loop-net-preserved : goal.loop-net-preserved
loop-net-preserved c =
    let step = sum_step group_part (λ n. unsigned_abs n.net) part_size c.args.rates.now c.loop-net.net-index _ c.loop-net-test.true _ c.group_part-sum.result c.requires c.loop-net.invariant c.group_part-sum.ensures in
    let own = step.own in
    let both = step.both in
    simp to_z-of_z step.value
