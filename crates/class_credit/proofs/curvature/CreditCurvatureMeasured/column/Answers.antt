use Rattle.std.proofs.Common.{◌∙◌, refl, sym, FitsSigned, arith, rules}
use Rattle.std.specs.Int.{w64}
use Rattle.std.proofs.lemmas.Int.{ints}
use Rattle.measured_bucket.proofs.MhUnits.Integers.{same64}
use Rattle.measured_bucket.specs.SimmParams.ListedBuckets.{credit_bucket_view}
use Rattle.measured_bucket.specs.SimmRules.Credit.{curved_point}
use Rattle.class_credit.specs.Points.{points_view}
use Rattle.class_credit.proofs.Columns.{grouped_views}
use Rattle.class_credit.proofs.CreditValues.{count, points_correlated}
use Rattle.class_credit.proofs.Curving.{nets_small, curved_column}
use Rattle.class_credit.proofs.curvature.CreditCurvatureMeasured.column.Goals as goal

pub curve_points-requires-clause-small : goal.curve_points-requires-clause-small
curve_points-requires-clause-small c = nets_small c.args.self.now.points.now c.requires.range

pub invariant_of-result : goal.invariant_of-result
invariant_of-result c =
    let x = c.args.self.now in
    let points = points_view x.points.now in
    let threshold = x.listed.bucket.terms.thresholds.vega in
    let fits : FitsSigned w64 threshold = search rules in
    let groups = grouped_views threshold _ x.points.now c.correlated.result.grouped.items c.in_ok-grouped.grouped.items c.correlated.ensures.grouped c.in_ok-grouped.ensures (same64 threshold fits) in
    let its = curved_column x.points.now c.requires.range x.listed.bucket.terms.curvature c.volatility_in.result.0 c.in_ok-factors.factors.items c.in_ok-factors.ensures c.volatility_in.ensures.value in
    let held = count points threshold c.requires.ascends c.correlated.result.grouped.items groups in
    record { sized = held ∙ sym its.count; from_one = its.from_one; below = its.below; in_range = its.in_range; cr_low = omega (arith, ints); cr_high = omega (arith, ints) }

pub returns-clause-made : goal.returns-clause-made
returns-clause-made c =
    let x = c.args.self.now in
    (curved_column x.points.now c.requires.range x.listed.bucket.terms.curvature c.volatility_in.result.0 c.in_ok-factors.factors.items c.in_ok-factors.ensures c.volatility_in.ensures.value).made

pub returns-clause-correlated : goal.returns-clause-correlated
returns-clause-correlated c =
    let x = c.args.self.now in
    let points = points_view x.points.now in
    let threshold = x.listed.bucket.terms.thresholds.vega in
    let fits : FitsSigned w64 threshold = search rules in
    let groups = grouped_views threshold _ x.points.now c.correlated.result.grouped.items c.in_ok-grouped.grouped.items c.correlated.ensures.grouped c.in_ok-grouped.ensures (same64 threshold fits) in
    points_correlated points threshold c.requires.ascends c.correlated.result.grouped.items groups (credit_bucket_view x.listed.bucket) c.correlated.result.same.0 c.correlated.result.rho.0 c.correlated.ensures.same c.correlated.ensures.rho (curved_point x.listed.bucket.terms.curvature) (λ a. refl)

pub returns-clause-near : goal.returns-clause-near
returns-clause-near c =
    let x = c.args.self.now in
    (curved_column x.points.now c.requires.range x.listed.bucket.terms.curvature c.volatility_in.result.0 c.in_ok-factors.factors.items c.in_ok-factors.ensures c.volatility_in.ensures.value).near
