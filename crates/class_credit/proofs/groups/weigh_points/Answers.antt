use Rattle.std.proofs.Common.{◌≡◌, ◌∙◌, ◌<◌, ◌≤◌, ap, sym, subst, pos, unsigned_abs, FitsSigned, rules, arith}
use Rattle.std.specs.Int.{w128, cast_signed, cast_unsigned}
use Rattle.measured_bucket.proofs.MhUnits.Integers.{same128}
use Rattle.measured_bucket.specs.SimmRules.Bucket.{weighted_value}
use Rattle.measured_bucket.specs.WeightedBucket.declared.group.Grouped.{Grouped}
use Rattle.measured_bucket.specs.WeightedBucket.Group.{at, group_net, group_factor}
use Rattle.class_credit.specs.Groups.{weighed_in}
use Rattle.measured_bucket.proofs.Alike.{made_more}
use Rattle.class_credit.proofs.Grouping.{factor_at}
use Rattle.measured_bucket.proofs.Thick.{cr_size}
use Rattle.measured_bucket.proofs.Weighings.{weighed_with, weighed_is}
use Rattle.class_credit.proofs.groups.weigh_points.Goals as goal

pub weigh-requires-clause-below : goal.weigh-requires-clause-below
weigh-requires-clause-below c =
    let grouped = c.args.grouped.now in
    let place = c.loop-place.place in
    let none : Grouped = record { group = 0; x = pos 0; threshold = pos 0 } in
    let factor = ap (λ cr. cr.0) c.index-cr.ensures ∙ factor_at c.in_ok-crs.crs.items grouped c.in_ok-crs.ensures place c.index-cr.result.now c.loop-place-test.true in
    let can = c.requires.concentrates place none c.loop-place-test.true in
    let size : unsigned_abs (group_factor grouped (at grouped place)) ≤ 346999999 = cr_size (group_net grouped (at grouped place).group) (at grouped place).threshold can.positive can.net_in_range in
    subst (λ z. unsigned_abs z < 347000000) (sym factor) (omega (arith, size))

pub loop-place-preserved : goal.loop-place-preserved
loop-place-preserved c =
    let grouped = c.args.grouped.now in
    let place = c.loop-place.place in
    let weight = c.args.weight.0 in
    let none : Grouped = record { group = 0; x = pos 0; threshold = pos 0 } in
    let net_fits : FitsSigned w128 (at grouped place).x = search rules in
    let weighed_fits : FitsSigned w128 c.weigh.result = search rules in
    let factor = ap (λ cr. cr.0) c.index-cr.ensures ∙ factor_at c.in_ok-crs.crs.items grouped c.in_ok-crs.ensures place c.index-cr.result.now c.loop-place-test.true in
    let value : c.weigh.result ≡ weighted_value weight (at grouped place).x (group_factor grouped (at grouped place)) =
    c.weigh.ensures ∙ ap (λ x. weighted_value weight x c.index-cr.result.now.0) (same128 (at grouped place).x net_fits) ∙ ap (weighted_value weight (at grouped place).x) factor in
    made_more (weighed_in weight grouped) grouped place none c.loop-place.weighed.items c.push.new.self.items (weighed_with (cast_signed w128 (cast_unsigned w128 c.weigh.result)) c.index-cr.result.now) c.loop-place-test.true c.loop-place.invariant c.in_ok-push.ensures.items
    (weighed_is (cast_signed w128 (cast_unsigned w128 c.weigh.result)) c.index-cr.result.now (weighted_value weight (at grouped place).x (group_factor grouped (at grouped place))) (group_factor grouped (at grouped place)) (same128 c.weigh.result weighed_fits ∙ value) factor)
