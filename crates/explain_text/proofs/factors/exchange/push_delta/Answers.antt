use Rattle.std.proofs.Common.{◌∙◌, ap, subst, sym}
use Rattle.measured_bucket.specs.SimmKinds.declared.kinds.Measure.TheVariants as measure
use Rattle.measured_bucket.specs.SimmRules.ForeignExchange.{weighted_currency}
use Rattle.class_exchange.specs.declared.currencies.CurrencyNet.{CurrencyNet}
use Rattle.class_exchange.specs.Currencies.{currencies_view, AreCurrencies}
use Rattle.class_exchange.specs.Unweighed.{unweighed_currency}
use Rattle.explain_text.specs.Factors.{currency_lines}
use Rattle.explain_text.specs.Names.{currency_name}
use Rattle.explain_text.proofs.Weighed.{added}
use Rattle.explain_text.proofs.factors.exchange.push_delta.Goals as goal

pub explain-requires : goal.explain-requires
explain-requires c = subst (AreCurrencies c.args.params.now) (sym c.as_slice.ensures.value) (c.in_ok-currencies.ensures.ready c.requires)

pub returns : goal.returns
returns c =
    let p = c.args.params.now in
    added measure.Delta c.args.product (λ (n : CurrencyNet). n.currency) currency_name
    (unweighed_currency p) (weighted_currency p) (currencies_view c.as_slice.result.now) c.in_ok-factors.factors.items
    c.push_factors.result c.as_slice-2.result.now c.args.text.now c.push_factors.new.text _
    c.as_slice-2.ensures.value c.in_ok-factors.ensures.from c.in_ok-factors.ensures.weighted
    (ap (currency_lines p c.args.product) (ap currencies_view c.as_slice.ensures.value ∙ c.in_ok-currencies.ensures.nets)) c.push_factors.ensures
