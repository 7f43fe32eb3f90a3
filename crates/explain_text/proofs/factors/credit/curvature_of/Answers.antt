use Rattle.std.proofs.Common.{◌∙◌, ap, subst, sym, pos}
use Rattle.measured_bucket.specs.SimmKinds.declared.kinds.Measure.TheVariants as measure
use Rattle.measured_bucket.specs.SimmRules.Credit.{curved_point}
use Rattle.measured_bucket.specs.SimmParams.ListedBuckets.{credit_bucket_view}
use Rattle.class_credit.specs.declared.points.PointNet.{PointNet}
use Rattle.class_credit.specs.Points.{credit_view, points_view, ArePoints}
use Rattle.class_credit.specs.Unweighed.{uncurved_point}
use Rattle.explain_text.specs.Factors.{point_curvature_lines}
use Rattle.explain_text.specs.Names.{point_name}
use Rattle.explain_text.proofs.Weighed.{added}
use Rattle.explain_text.proofs.factors.credit.curvature_of.Goals as goal

pub explain-requires : goal.explain-requires
explain-requires c = subst (ArePoints (pos 10000)) (sym (ap points_view c.as_slice.ensures.value ∙ c.in_ok-points.ensures)) c.requires

pub returns : goal.returns
returns c =
    let product = c.args.product in
    let bucket = c.args.bucket.now in
    let read = points_view c.as_slice.result.now in
    let b = credit_bucket_view c.args.listed.bucket in
    added measure.Curvature product (λ (n : PointNet). credit_view n.point) (point_name c.volatility_type.result bucket)
    (uncurved_point (b.terms).curvature) (curved_point (b.terms).curvature) read c.in_ok-factors.factors.items
    c.push_factors.result c.as_slice-2.result.now c.args.text.now c.push_factors.new.text _
    c.as_slice-2.ensures.value c.in_ok-factors.ensures.from c.in_ok-factors.ensures.weighted
    (λ k. point_curvature_lines product (c.volatility_type.ensures k) bucket ((ap points_view c.as_slice.ensures.value ∙ c.in_ok-points.ensures) k) b)
    c.push_factors.ensures
