use Rattle.std.proofs.Common.{◌∙◌, length, refl, sym, ap, FitsSigned, arith, rules}
use Rattle.std.proofs.lemmas.Int.{ints}
use Rattle.std.specs.Int.{w64}
use Rattle.measured_bucket.proofs.MhUnits.Integers.{same64}
use Rattle.measured_bucket.specs.SimmParams.ListedBuckets.{credit_bucket_view}
use Rattle.measured_bucket.specs.SimmRules.Credit.{weighted_point}
use Rattle.class_credit.specs.Points.{points_view}
use Rattle.class_credit.proofs.Columns.{grouped_views, concentrated_column}
use Rattle.class_credit.proofs.CreditValues.{count, points_can_weigh, points_correlated}
use Rattle.class_credit.proofs.listed.ListedCredit.concentrated.Goals as goal

pub weigh_points-requires : goal.weigh_points-requires
weigh_points-requires c =
    let points = points_view c.args.points.now in
    let threshold = c.args.threshold in
    let fits : FitsSigned w64 threshold = search rules in
    let groups = grouped_views threshold _ c.args.points.now c.as_slice.result.now c.in_ok-grouped.grouped.items c.as_slice.ensures.value c.in_ok-grouped.ensures (same64 threshold fits) in
    points_can_weigh points threshold c.requires.ascends c.as_slice.result.now groups c.args.weight.0 c.requires.weighable

pub invariant_of-result : goal.invariant_of-result
invariant_of-result c =
    let points = points_view c.args.points.now in
    let threshold = c.args.threshold in
    let fits : FitsSigned w64 threshold = search rules in
    let groups = grouped_views threshold _ c.args.points.now c.as_slice.result.now c.in_ok-grouped.grouped.items c.as_slice.ensures.value c.in_ok-grouped.ensures (same64 threshold fits) in
    let its = concentrated_column c.args.weight.0 threshold points c.requires.ascends c.requires.weighable c.as_slice.result.now groups c.in_ok-factors.factors.items c.in_ok-factors.ensures in
    let held = ap length (c.correlated.ensures.grouped ∙ sym c.as_slice.ensures.value) ∙ count points threshold c.requires.ascends c.as_slice.result.now groups in
    record { sized = held ∙ sym its.count; from_one = its.from_one; below = its.below; in_range = its.in_range; cr_low = omega (arith, ints); cr_high = omega (arith, ints) }

pub returns-clause-made : goal.returns-clause-made
returns-clause-made c =
    let points = points_view c.args.points.now in
    let threshold = c.args.threshold in
    let fits : FitsSigned w64 threshold = search rules in
    let groups = grouped_views threshold _ c.args.points.now c.as_slice.result.now c.in_ok-grouped.grouped.items c.as_slice.ensures.value c.in_ok-grouped.ensures (same64 threshold fits) in
    (concentrated_column c.args.weight.0 threshold points c.requires.ascends c.requires.weighable c.as_slice.result.now groups c.in_ok-factors.factors.items c.in_ok-factors.ensures).made

pub returns-clause-correlated : goal.returns-clause-correlated
returns-clause-correlated c =
    let points = points_view c.args.points.now in
    let threshold = c.args.threshold in
    let fits : FitsSigned w64 threshold = search rules in
    let groups = grouped_views threshold _ c.args.points.now c.correlated.result.grouped.items c.in_ok-grouped.grouped.items c.correlated.ensures.grouped c.in_ok-grouped.ensures (same64 threshold fits) in
    points_correlated points threshold c.requires.ascends c.correlated.result.grouped.items groups (credit_bucket_view c.args.self.now.bucket) c.correlated.result.same.0 c.correlated.result.rho.0 c.correlated.ensures.same c.correlated.ensures.rho (weighted_point c.args.weight.0 threshold points) (λ a. refl)

pub returns-clause-near : goal.returns-clause-near
returns-clause-near c =
    let points = points_view c.args.points.now in
    let threshold = c.args.threshold in
    let fits : FitsSigned w64 threshold = search rules in
    let groups = grouped_views threshold _ c.args.points.now c.as_slice.result.now c.in_ok-grouped.grouped.items c.as_slice.ensures.value c.in_ok-grouped.ensures (same64 threshold fits) in
    (concentrated_column c.args.weight.0 threshold points c.requires.ascends c.requires.weighable c.as_slice.result.now groups c.in_ok-factors.factors.items c.in_ok-factors.ensures).near
