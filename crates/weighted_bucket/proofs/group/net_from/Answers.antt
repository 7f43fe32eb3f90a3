use Rattle.std.proofs.Common.{arith}
use Rattle.std.proofs.lemmas.Int.{to_z-of_z}
use Rattle.weighted_bucket.specs.Group.{at}
use Rattle.weighted_bucket.proofs.Groups.{net_start, net_step, net_end}
use Rattle.weighted_bucket.proofs.group.net_from.Goals as goal

pub loop-place-init : goal.loop-place-init
loop-place-init c = net_start c.args.amounts.now c.args.start c.requires.starts

pub returns-then-amount-group : goal.returns-then-amount-group
returns-then-amount-group c =
    net_end c.args.amounts.now c.args.start c.loop-place.place _ c.requires.ordered c.loop-place.auto.place (omega arith) (λ h. c.if-amount-group.true) c.loop-place.invariant

pub overflow_add-net : goal.overflow_add-net
overflow_add-net c =
    let step = net_step c.args.amounts.now (at c.args.amounts.now c.args.start).group c.loop-place.place _ c.requires.in_range c.loop-place-test.true c.if-amount-group.false c.loop-place.invariant in
    let own = step.own in
    simp to_z-of_z step.both

pub loop-place-preserved : goal.loop-place-preserved
loop-place-preserved c =
    let step = net_step c.args.amounts.now (at c.args.amounts.now c.args.start).group c.loop-place.place _ c.requires.in_range c.loop-place-test.true c.if-amount-group.false c.loop-place.invariant in
    let own = step.own in
    let both = step.both in
    simp to_z-of_z step.value

pub returns : goal.returns
returns c =
    net_end c.args.amounts.now c.args.start c.loop-place.place _ c.requires.ordered c.loop-place.auto.place (omega arith) (λ h. absurd (omega arith)) c.loop-place.invariant
