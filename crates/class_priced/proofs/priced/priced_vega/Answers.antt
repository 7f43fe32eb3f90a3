use Rattle.std.proofs.Common.{◌≡◌, ◌∙◌, ◌+◌, ◌*◌, ◌^◌, ◌≤◌, ℕ, List, ap, sym, subst, IfOk, unsigned_abs}
use Rattle.std.proofs.lemmas.List.{length-map}
use Rattle.std.proofs.lemmas.Result.{IfOk-weaker}
use Rattle.measured_bucket.specs.SimmKinds.Order.{name_cmp}
use Rattle.measured_bucket.specs.SimmRules.declared.values.BucketMargin.{BucketMargin}
use Rattle.measured_bucket.specs.SimmRules.Risks.{Amount}
use Rattle.measured_bucket.specs.SimmRules.Priced.{NameVolatility, names_of}
use Rattle.measured_bucket.specs.SimmParams.ListedBuckets.{priced_bucket_view}
use Rattle.measured_bucket.specs.Measured.{IsNear}
use Rattle.measured_bucket.specs.Runs.{AreTotals}
use Rattle.measured_bucket.specs.declared.tenor_scale.TenorScale.TheVariants as scale
use Rattle.measured_bucket.proofs.Counted.{counted}
use Rattle.measured_bucket.proofs.Totals.{totals_near}
use Rattle.class_priced.specs.Names.{volatility_nets}
use Rattle.class_priced.specs.Sums.{name_sums, name_total, name_totals}
use Rattle.class_priced.specs.Weights.{vega_name}
use Rattle.class_priced.proofs.PricedValues.{vega_is, vega_of}
use Rattle.class_priced.proofs.VolatileNames.{names}
use Rattle.class_priced.proofs.priced.priced_vega.Goals as goal

pub volatile_names-requires-clause-order : goal.volatile_names-requires-clause-order
volatile_names-requires-clause-order g c = c.requires.ascends

pub volatile_names-requires-clause-sizes : goal.volatile_names-requires-clause-sizes
volatile_names-requires-clause-sizes g c = c.requires.range.sizes

pub measure-requires : goal.measure-requires
measure-requires g c =
    let listed = c.args.listed in
    subst (AreTotals name_cmp scale.Even (λ (x : List ℕ). listed.bucket.sigma.0)) (sym (ap name_sums c.as_slice.ensures.value))
    (c.in_ok-names.ensures.measured listed.bucket.sigma.0 listed.weighed.sigma.low c.requires)

pub returns-clause-value : goal.returns-clause-value
returns-clause-value g c =
    let b = priced_bucket_view c.args.listed.bucket in
    let amounts = volatility_nets c.args.lent.now.factors in
    let there = ap name_sums c.as_slice.ensures.value ∙ c.in_ok-names.ensures.sums in
    subst (λ v. IfOk c.measure.result (λ (m : BucketMargin). m ≡ v)) (ap (vega_of b c.args.listed.hvr.0) there ∙ vega_is b amounts c.args.listed.hvr.0) c.measure.ensures.value

pub returns-clause-near : goal.returns-clause-near
returns-clause-near g c =
    let listed = c.args.listed in
    let sigma = λ (x : List ℕ). listed.bucket.sigma.0 in
    let amounts = volatility_nets c.args.lent.now.factors in
    let there = ap name_sums c.as_slice.ensures.value ∙ c.in_ok-names.ensures.sums in
    IfOk-weaker c.measure.result (λ (m : BucketMargin). IsNear (10 ^ 10) 832799998 695 sigma (name_totals scale.Even amounts) (unsigned_abs m.gross)) (λ m. IsNear (10 ^ 10) 832799998 695 (λ (x : NameVolatility). listed.bucket.sigma.0) amounts (unsigned_abs m.gross))
    (λ m near. totals_near names scale.Even sigma (λ x. listed.weighed.sigma.low) amounts (10 ^ 10) 832799998 695 (unsigned_abs m.gross) near)
    (subst (λ xs. IfOk c.measure.result (λ (m : BucketMargin). IsNear (10 ^ 10) 832799998 695 sigma xs (unsigned_abs m.gross))) there c.measure.ensures.near)

pub returns-clause-steps : goal.returns-clause-steps
returns-clause-steps g c =
    let b = priced_bucket_view c.args.listed.bucket in
    let amounts = volatility_nets c.args.lent.now.factors in
    let there = ap name_sums c.as_slice.ensures.value ∙ c.in_ok-names.ensures.sums in
    let sum_of : List ℕ → Amount (List ℕ) = λ name. record { of = name; amount = name_total scale.Even amounts name } in
    subst (λ n. c.measure.new.steps ≤ c.args.steps.now + n * n) (length-map (names_of amounts) sum_of)
    (counted (vega_name c.args.listed.hvr.0 b) c.args.steps.now c.measure.new.steps (name_sums c.as_slice.result.now) (name_totals scale.Even amounts) there c.measure.ensures.steps)
