use Rattle.std.proofs.Common.{◌≡◌, ◌∙◌, get_or, ap, pos, FitsSigned, rules}
use Rattle.std.specs.Int.{w64, w128, cast_signed, cast_unsigned}
use Rattle.std.proofs.lemmas.List.{get_or-map}
use Rattle.measured_bucket.proofs.MhUnits.Integers.{same64, same128}
use Rattle.measured_bucket.proofs.Alike.{made_more}
use Rattle.measured_bucket.specs.WeightedBucket.declared.group.Grouped.{Grouped}
use Rattle.measured_bucket.specs.WeightedBucket.Group.{at, group_net}
use Rattle.measured_bucket.specs.Explained.{from_group}
use Rattle.class_credit.specs.Unweighed.{weighing_in}
use Rattle.class_credit.proofs.groups.group_weighings.Goals as goal

pub loop-place-preserved : goal.loop-place-preserved
loop-place-preserved c =
    let grouped = c.args.grouped.now in
    let place = c.loop-place.place in
    let inside = c.loop-place-test.true in
    let weight = c.args.weight.0 in
    let none : Grouped = record { group = 0; x = pos 0; threshold = pos 0 } in
    let amount = at grouped place in
    let net = get_or c.args.nets.now place (pos 0) in
    let net_of = λ (g : Grouped). group_net grouped g.group in
    let x_fits : FitsSigned w128 amount.x = search rules in
    let net_fits : FitsSigned w128 net = search rules in
    let threshold_fits : FitsSigned w64 amount.threshold = search rules in
    let net_is : net ≡ group_net grouped amount.group = ap (λ ns. get_or ns place (pos 0)) c.requires ∙ get_or-map net_of grouped place none (pos 0) inside in
    let is =
    c.in_group.ensures
    ∙ ap (λ t. from_group weight t (cast_signed w128 (cast_unsigned w128 net)) (cast_signed w128 (cast_unsigned w128 amount.x))) (same64 amount.threshold threshold_fits)
    ∙ ap (λ n. from_group weight amount.threshold n (cast_signed w128 (cast_unsigned w128 amount.x))) (same128 net net_fits ∙ net_is)
    ∙ ap (from_group weight amount.threshold (group_net grouped amount.group)) (same128 amount.x x_fits) in
    made_more (weighing_in weight grouped) grouped place none c.loop-place.weighings.items c.push.new.self.items c.in_group.result inside c.loop-place.invariant c.in_ok-push.ensures.items is
