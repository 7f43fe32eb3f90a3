use Rattle.std.proofs.Common.{◌≡◌, ◌∙◌, ◌^◌, IfOk, ap, sym, subst, unsigned_abs}
use Rattle.measured_bucket.specs.SimmRules.declared.values.BucketMargin.{BucketMargin}
use Rattle.measured_bucket.specs.SimmRules.ForeignExchange.{fx_weight, fx_value, weighted_currency}
use Rattle.measured_bucket.specs.Measured.{IsNear}
use Rattle.measured_bucket.proofs.Counted.{counted}
use Rattle.class_exchange.specs.Currencies.{currencies_view, risky_nets, AreCurrencies}
use Rattle.class_exchange.proofs.exchange.fx_delta.Goals as goal

pub measure-requires : goal.measure-requires
measure-requires g c =
    let ready = c.in_ok-currencies.ensures.ready c.requires in
    subst (AreCurrencies c.args.params.now) (sym c.as_slice.ensures.value) ready

pub returns-clause-value : goal.returns-clause-value
returns-clause-value g c =
    let there = ap currencies_view c.as_slice.ensures.value ∙ c.in_ok-currencies.ensures.nets in
    subst (λ xs. IfOk c.measure.result (λ (m : BucketMargin). m ≡ fx_value c.args.params.now xs))
    there c.measure.ensures.value

pub returns-clause-near : goal.returns-clause-near
returns-clause-near g c =
    let there = ap currencies_view c.as_slice.ensures.value ∙ c.in_ok-currencies.ensures.nets in
    let p = c.args.params.now in
    subst (λ xs. IfOk c.measure.result (λ (m : BucketMargin).
    IsNear (10 ^ 10) 346999999 1 (fx_weight p) xs (unsigned_abs m.gross)))
    there c.measure.ensures.near

pub returns-clause-steps : goal.returns-clause-steps
returns-clause-steps g c =
    let p = c.args.params.now in
    let there = ap currencies_view c.as_slice.ensures.value ∙ c.in_ok-currencies.ensures.nets in
    counted (weighted_currency p) c.args.steps.now c.measure.new.steps
    (currencies_view c.as_slice.result.now) (risky_nets p c.args.lent.now.factors) there
    c.measure.ensures.steps
