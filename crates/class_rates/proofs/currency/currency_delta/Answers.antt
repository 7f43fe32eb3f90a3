use Rattle.std.proofs.Common.{◌≡◌, ◌∙◌, ◌^◌, ap, sym, subst, IfOk, unsigned_abs}
use Rattle.measured_bucket.specs.SimmRules.declared.values.BucketMargin.{BucketMargin}
use Rattle.measured_bucket.specs.SimmRules.Rates.{currency_value, rate_cr, rate_weight, weighted_rate}
use Rattle.measured_bucket.specs.Measured.{IsNear}
use Rattle.measured_bucket.proofs.Counted.{counted}
use Rattle.class_rates.specs.Rates.{rates_among, rates_view, AreRates}
use Rattle.class_rates.proofs.currency.currency_delta.Goals as goal

pub measure-requires : goal.measure-requires
measure-requires g c =
    let currency = c.args.currency.now in
    let there = ap (rates_view currency) c.as_slice.ensures.value ∙ c.in_ok-rates.ensures currency in
    subst (AreRates c.args.params.now) (sym there) c.requires

pub returns-clause-value : goal.returns-clause-value
returns-clause-value g c =
    let currency = c.args.currency.now in
    let there = ap (rates_view currency) c.as_slice.ensures.value ∙ c.in_ok-rates.ensures currency in
    subst (λ xs. IfOk c.measure.result (λ (m : BucketMargin). m ≡ currency_value c.args.params.now currency xs)) there c.measure.ensures.value

pub returns-clause-near : goal.returns-clause-near
returns-clause-near g c =
    let currency = c.args.currency.now in
    let there = ap (rates_view currency) c.as_slice.ensures.value ∙ c.in_ok-rates.ensures currency in
    subst (λ xs. IfOk c.measure.result (λ (m : BucketMargin). IsNear (10 ^ 10) 346999999 1 (rate_weight c.args.params.now) xs (unsigned_abs m.gross))) there c.measure.ensures.near

pub returns-clause-steps : goal.returns-clause-steps
returns-clause-steps g c =
    let currency = c.args.currency.now in
    let read = rates_view currency c.as_slice.result.now in
    let there = ap (rates_view currency) c.as_slice.ensures.value ∙ c.in_ok-rates.ensures currency in
    counted (weighted_rate c.args.params.now (rate_cr c.args.params.now currency read)) c.args.steps.now c.measure.new.steps read (rates_among currency c.args.lent.now.factors) there c.measure.ensures.steps
