use Rattle.std.proofs.Common.{◌≡◌, ◌∙◌, ◌^◌, ap, sym, subst, IfOk, unsigned_abs}
use Rattle.measured_bucket.specs.SimmRules.declared.values.BucketMargin.{BucketMargin}
use Rattle.measured_bucket.specs.SimmRules.Risks.{CreditPoint}
use Rattle.measured_bucket.specs.SimmRules.Credit.{credit_value, weighted_point}
use Rattle.measured_bucket.specs.SimmParams.ListedBuckets.{credit_bucket_view}
use Rattle.measured_bucket.specs.Measured.{IsNear}
use Rattle.class_credit.specs.Points.{point_nets, points_view, ArePoints}
use Rattle.measured_bucket.proofs.Counted.{counted}
use Rattle.class_credit.proofs.credit.credit_delta.Goals as goal

pub measure-requires : goal.measure-requires
measure-requires g c =
    let there = ap points_view c.as_slice.ensures.value ∙ c.in_ok-points.ensures in
    subst (ArePoints c.args.listed.bucket.terms.weight.0) (sym there) c.requires

pub returns-clause-value : goal.returns-clause-value
returns-clause-value g c =
    let there = ap points_view c.as_slice.ensures.value ∙ c.in_ok-points.ensures in
    subst (λ xs. IfOk c.measure.result (λ (m : BucketMargin). m ≡ credit_value (credit_bucket_view c.args.listed.bucket) xs)) there c.measure.ensures.value

pub returns-clause-near : goal.returns-clause-near
returns-clause-near g c =
    let there = ap points_view c.as_slice.ensures.value ∙ c.in_ok-points.ensures in
    subst (λ xs. IfOk c.measure.result (λ (m : BucketMargin). IsNear (10 ^ 10) 346999999 1 (λ (x : CreditPoint). c.args.listed.bucket.terms.weight.0) xs (unsigned_abs m.gross))) there c.measure.ensures.near

pub returns-clause-steps : goal.returns-clause-steps
returns-clause-steps g c =
    let there = ap points_view c.as_slice.ensures.value ∙ c.in_ok-points.ensures in
    let terms = c.args.listed.bucket.terms in
    counted (weighted_point terms.weight.0 terms.thresholds.delta (points_view c.as_slice.result.now)) c.args.steps.now c.measure.new.steps (points_view c.as_slice.result.now) (point_nets c.args.lent.now.factors) there c.measure.ensures.steps
