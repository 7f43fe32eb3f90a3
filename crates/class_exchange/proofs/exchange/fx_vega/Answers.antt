use Rattle.std.proofs.Common.{◌≡◌, ◌∙◌, ◌^◌, IfOk, map, ap, sym, subst, unsigned_abs}
use Rattle.std.proofs.lemmas.Result.{IfOk-weaker}
use Rattle.measured_bucket.specs.SimmKinds.Order.{pair_cmp, same_pair}
use Rattle.measured_bucket.specs.SimmRules.declared.values.BucketMargin.{BucketMargin}
use Rattle.measured_bucket.specs.SimmRules.Bucket.{concentrated, bucket_value}
use Rattle.measured_bucket.specs.SimmRules.Concentration.{one}
use Rattle.measured_bucket.specs.SimmRules.ForeignExchange.{PairVolatility, fx_sigma, pair_rho}
use Rattle.measured_bucket.specs.declared.tenor_scale.TenorScale.TheVariants as scale
use Rattle.measured_bucket.specs.Measured.{IsNear}
use Rattle.measured_bucket.specs.Runs.{AreTotals}
use Rattle.measured_bucket.proofs.SimmParams.Sigmas.{sigma_low}
use Rattle.measured_bucket.proofs.Totals.{totals_near}
use Rattle.class_exchange.specs.Pairs.{pair_nets, pair_sums, pair_totals, vega_pair}
use Rattle.class_exchange.proofs.PairValues.{vega_is, pairs_counted}
use Rattle.class_exchange.proofs.VolatilePairs.{pairs}
use Rattle.class_exchange.proofs.exchange.fx_vega.Goals as goal

pub volatile_pairs-requires-clause-order : goal.volatile_pairs-requires-clause-order
volatile_pairs-requires-clause-order g c = c.requires.ascends

pub volatile_pairs-requires-clause-sizes : goal.volatile_pairs-requires-clause-sizes
volatile_pairs-requires-clause-sizes g c = c.requires.range.sizes

pub measure-requires : goal.measure-requires
measure-requires g c =
    let p = c.args.params.now in
    let ready = c.in_ok-pairs.ensures.ready p c.facts.ensures.params c.requires in
    subst (λ xs. AreTotals pair_cmp scale.Even (fx_sigma p) (pair_sums xs))
    (sym c.as_slice.ensures.value) ready

pub returns-clause-value : goal.returns-clause-value
returns-clause-value g c =
    let p = c.args.params.now in
    let there = ap pair_sums c.as_slice.ensures.value ∙ c.in_ok-pairs.ensures.sums in
    subst (λ fs. IfOk c.measure.result (λ (m : BucketMargin). m ≡ bucket_value (concentrated same_pair (pair_rho p)) one fs)) (ap (map (vega_pair p)) there ∙ vega_is (pair_nets c.args.lent.now.factors) p) c.measure.ensures.value

pub returns-clause-near : goal.returns-clause-near
returns-clause-near g c =
    let p = c.args.params.now in
    let amounts = pair_nets c.args.lent.now.factors in
    let there = ap pair_sums c.as_slice.ensures.value ∙ c.in_ok-pairs.ensures.sums in
    IfOk-weaker c.measure.result (λ (m : BucketMargin). IsNear (10 ^ 10) 832799998 695 (fx_sigma p) (pair_totals scale.Even amounts) (unsigned_abs m.gross))
    (λ m. IsNear (10 ^ 10) 832799998 695 (λ (v : PairVolatility). fx_sigma p v.pair) amounts (unsigned_abs m.gross))
    (λ m. totals_near pairs scale.Even (fx_sigma p) (sigma_low p c.facts.ensures.params) amounts (10 ^ 10) 832799998 695 (unsigned_abs m.gross))
    (subst (λ xs. IfOk c.measure.result (λ (m : BucketMargin). IsNear (10 ^ 10) 832799998 695 (fx_sigma p) xs (unsigned_abs m.gross))) there c.measure.ensures.near)

pub returns-clause-steps : goal.returns-clause-steps
returns-clause-steps g c =
    let there = ap pair_sums c.as_slice.ensures.value ∙ c.in_ok-pairs.ensures.sums in
    pairs_counted (pair_nets c.args.lent.now.factors) (vega_pair c.args.params.now) scale.Even c.args.steps.now c.measure.new.steps (pair_sums c.as_slice.result.now) there c.measure.ensures.steps
