use Rattle.std.proofs.Common.{◌≡◌, ◌∙◌, ◌^◌, IfOk, ap, sym, subst, unsigned_abs}
use Rattle.measured_bucket.specs.SimmRules.declared.values.BucketMargin.{BucketMargin}
use Rattle.measured_bucket.specs.SimmRules.BaseCorrelation.{base_value, weighted_index}
use Rattle.measured_bucket.specs.Measured.{IsNear}
use Rattle.class_credit.specs.Base.{index_nets, indices_view, index_weight, AreIndices}
use Rattle.measured_bucket.proofs.Counted.{counted}
use Rattle.class_credit.proofs.base.base_correlation.Goals as goal

pub measure-requires : goal.measure-requires
measure-requires g c =
    let p = c.args.params.now in
    let there = ap indices_view c.as_slice.ensures.value ∙ c.in_ok-indices.ensures in
    subst (AreIndices p) (sym there) c.requires

pub returns-clause-value : goal.returns-clause-value
returns-clause-value g c =
    let p = c.args.params.now in
    let there = ap indices_view c.as_slice.ensures.value ∙ c.in_ok-indices.ensures in
    subst (λ xs. IfOk c.measure.result (λ (m : BucketMargin). m ≡ base_value p xs)) there c.measure.ensures.value

pub returns-clause-near : goal.returns-clause-near
returns-clause-near g c =
    let p = c.args.params.now in
    let there = ap indices_view c.as_slice.ensures.value ∙ c.in_ok-indices.ensures in
    subst (λ xs. IfOk c.measure.result (λ (m : BucketMargin). IsNear (10 ^ 10) 346999999 1 (index_weight p) xs (unsigned_abs m.gross))) there c.measure.ensures.near

pub returns-clause-steps : goal.returns-clause-steps
returns-clause-steps g c =
    let there = ap indices_view c.as_slice.ensures.value ∙ c.in_ok-indices.ensures in
    counted (weighted_index c.args.params.now) c.args.steps.now c.measure.new.steps (indices_view c.as_slice.result.now) (index_nets c.args.lent.now.factors) there c.measure.ensures.steps
