use Rattle.std.proofs.Common.{FitsSigned, get_or, le_refl, refl, unsigned_abs}
use Rattle.std.specs.Int.{w128}
use Rattle.std.proofs.lemmas.Int.{to_z-of_z}
use Rattle.class_rates.specs.declared.volatilities.VolatilityNet.{VolatilityNet}
use Rattle.class_rates.specs.Rho.{no_volatility}
use Rattle.class_rates.proofs.Sums.{sum_step}
use Rattle.class_rates.proofs.vega.group_net.Goals as goal

pub overflow_add-sum : goal.overflow_add-sum
overflow_add-sum c =
    let nets = c.args.volatilities.now in
    let more = (get_or nets c.loop-net.net-index no_volatility).net in
    let step = sum_step (λ (n : VolatilityNet). n.net) (λ n. unsigned_abs n.net) (λ n. le_refl (unsigned_abs n.net)) nets c.loop-net.net-index no_volatility c.loop-net-test.true _ more c.requires c.loop-net.invariant refl in
    let own : FitsSigned w128 more = step.own in
    simp to_z-of_z step.both

pub loop-net-preserved : goal.loop-net-preserved
loop-net-preserved c =
    let nets = c.args.volatilities.now in
    let more = (get_or nets c.loop-net.net-index no_volatility).net in
    let step = sum_step (λ (n : VolatilityNet). n.net) (λ n. unsigned_abs n.net) (λ n. le_refl (unsigned_abs n.net)) nets c.loop-net.net-index no_volatility c.loop-net-test.true _ more c.requires c.loop-net.invariant refl in
    let own : FitsSigned w128 more = step.own in
    let both = step.both in
    simp to_z-of_z step.value
