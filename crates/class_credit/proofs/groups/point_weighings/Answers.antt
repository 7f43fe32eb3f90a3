use Rattle.std.proofs.Common.{◌≡◌, ◌∙◌, map, FitsSigned, rules}
use Rattle.std.proofs.lemmas.Result.{IfOk-weaker}
use Rattle.std.specs.Int.{w64}
use Rattle.measured_bucket.proofs.MhUnits.Integers.{same64}
use Rattle.class_credit.specs.Points.{points_view}
use Rattle.class_credit.specs.Unweighed.{unweighed_point, weighing_in}
use Rattle.class_credit.proofs.Columns.{grouped_views}
use Rattle.class_credit.proofs.CreditValues.{points_can_weigh, weighings_made}
use Rattle.class_credit.proofs.groups.point_weighings.Goals as goal

pub group_nets-requires-clause-ordered : goal.group_nets-requires-clause-ordered
group_nets-requires-clause-ordered c =
    let points = points_view c.args.points.now in
    let threshold = c.args.threshold in
    let fits : FitsSigned w64 threshold = search rules in
    let groups = grouped_views threshold _ c.args.points.now c.as_slice-amounts.result.now c.in_ok-grouped.grouped.items c.as_slice-amounts.ensures.value c.in_ok-grouped.ensures (same64 threshold fits) in
    (points_can_weigh points threshold c.requires.ascends c.as_slice-amounts.result.now groups c.args.weight.0 c.requires.weighable).ordered

pub group_nets-requires-clause-in_range : goal.group_nets-requires-clause-in_range
group_nets-requires-clause-in_range c =
    let points = points_view c.args.points.now in
    let threshold = c.args.threshold in
    let fits : FitsSigned w64 threshold = search rules in
    let groups = grouped_views threshold _ c.args.points.now c.as_slice-amounts.result.now c.in_ok-grouped.grouped.items c.as_slice-amounts.ensures.value c.in_ok-grouped.ensures (same64 threshold fits) in
    (points_can_weigh points threshold c.requires.ascends c.as_slice-amounts.result.now groups c.args.weight.0 c.requires.weighable).in_range

pub returns : goal.returns
returns c =
    let points = points_view c.args.points.now in
    let threshold = c.args.threshold in
    let fits : FitsSigned w64 threshold = search rules in
    let grouped = c.as_slice-amounts.result.now in
    let groups = grouped_views threshold _ c.args.points.now grouped c.in_ok-grouped.grouped.items c.as_slice-amounts.ensures.value c.in_ok-grouped.ensures (same64 threshold fits) in
    IfOk-weaker c.group_weighings.result (λ weighings. weighings.items ≡ map (weighing_in c.args.weight.0 grouped) grouped)
    (λ weighings. weighings.items ≡ map (λ f. f.from) (map (unweighed_point c.args.weight.0 threshold points) points))
    (λ weighings e. e ∙ weighings_made points threshold c.requires.ascends grouped groups c.args.weight.0) c.group_weighings.ensures
