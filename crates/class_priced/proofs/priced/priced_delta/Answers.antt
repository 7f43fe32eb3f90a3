use Rattle.std.proofs.Common.{◌≡◌, ◌∙◌, ◌^◌, ℕ, List, ap, sym, subst, IfOk, unsigned_abs}
use Rattle.measured_bucket.specs.SimmRules.declared.values.BucketMargin.{BucketMargin}
use Rattle.measured_bucket.specs.SimmRules.Priced.{price_value}
use Rattle.measured_bucket.specs.SimmParams.ListedBuckets.{priced_bucket_view}
use Rattle.measured_bucket.specs.Measured.{IsNear}
use Rattle.measured_bucket.proofs.Counted.{counted}
use Rattle.class_priced.specs.Names.{name_nets, names_view, AreNames}
use Rattle.class_priced.specs.Weights.{delta_name}
use Rattle.class_priced.proofs.priced.priced_delta.Goals as goal

pub measure-requires : goal.measure-requires
measure-requires g c =
    let there = ap names_view c.as_slice.ensures.value ∙ c.in_ok-names.ensures in
    subst (AreNames c.args.listed.bucket.terms.weight.0) (sym there) c.requires

pub returns-clause-value : goal.returns-clause-value
returns-clause-value g c =
    let there = ap names_view c.as_slice.ensures.value ∙ c.in_ok-names.ensures in
    subst (λ xs. IfOk c.measure.result (λ (m : BucketMargin). m ≡ price_value (priced_bucket_view c.args.listed.bucket) xs)) there c.measure.ensures.value

pub returns-clause-near : goal.returns-clause-near
returns-clause-near g c =
    let there = ap names_view c.as_slice.ensures.value ∙ c.in_ok-names.ensures in
    subst (λ xs. IfOk c.measure.result (λ (m : BucketMargin). IsNear (10 ^ 10) 346999999 1 (λ (x : List ℕ). c.args.listed.bucket.terms.weight.0) xs (unsigned_abs m.gross))) there c.measure.ensures.near

pub returns-clause-steps : goal.returns-clause-steps
returns-clause-steps g c =
    let there = ap names_view c.as_slice.ensures.value ∙ c.in_ok-names.ensures in
    counted (delta_name (priced_bucket_view c.args.listed.bucket)) c.args.steps.now c.measure.new.steps (names_view c.as_slice.result.now) (name_nets c.args.lent.now.factors) there c.measure.ensures.steps
