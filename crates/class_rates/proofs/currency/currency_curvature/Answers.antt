use Rattle.std.proofs.Common.{◌≡◌, ◌∙◌, ap, sym, subst, IfOk, unsigned_abs}
use Rattle.measured_bucket.specs.SimmRules.declared.values.BucketMargin.{BucketMargin}
use Rattle.measured_bucket.specs.SimmRules.Rates.{currency_curvature_value, curved_rate_volatility}
use Rattle.measured_bucket.specs.Measured.{IsNear}
use Rattle.measured_bucket.specs.Values.{alone}
use Rattle.measured_bucket.proofs.Counted.{counted}
use Rattle.class_rates.specs.Volatilities.{volatilities_among, volatilities_view, AreVolatilities}
use Rattle.class_rates.proofs.currency.currency_curvature.Goals as goal

pub measure-requires : goal.measure-requires
measure-requires g c =
    let currency = c.args.currency.now in
    let there = ap (volatilities_view currency) c.as_slice.ensures.value ∙ c.in_ok-volatilities.ensures currency in
    subst AreVolatilities (sym there) c.requires

pub returns-clause-value : goal.returns-clause-value
returns-clause-value g c =
    let currency = c.args.currency.now in
    let there = ap (volatilities_view currency) c.as_slice.ensures.value ∙ c.in_ok-volatilities.ensures currency in
    subst (λ xs. IfOk c.measure.result (λ (m : BucketMargin). m ≡ currency_curvature_value c.args.params.now xs)) there c.measure.ensures.value

pub returns-clause-near : goal.returns-clause-near
returns-clause-near g c =
    let currency = c.args.currency.now in
    let there = ap (volatilities_view currency) c.as_slice.ensures.value ∙ c.in_ok-volatilities.ensures currency in
    subst (λ xs. IfOk c.measure.result (λ (m : BucketMargin). IsNear 20000 1 1 alone xs (unsigned_abs m.gross))) there c.measure.ensures.near

pub returns-clause-steps : goal.returns-clause-steps
returns-clause-steps g c =
    let currency = c.args.currency.now in
    let read = volatilities_view currency c.as_slice.result.now in
    let there = ap (volatilities_view currency) c.as_slice.ensures.value ∙ c.in_ok-volatilities.ensures currency in
    counted curved_rate_volatility c.args.steps.now c.measure.new.steps read (volatilities_among currency c.args.lent.now.factors) there c.measure.ensures.steps
