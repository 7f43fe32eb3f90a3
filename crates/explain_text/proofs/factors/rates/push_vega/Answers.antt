use Rattle.std.proofs.Common.{◌∙◌, ap, subst, sym}
use Rattle.measured_bucket.specs.SimmKinds.declared.kinds.Measure.TheVariants as measure
use Rattle.measured_bucket.specs.SimmRules.Rates.{rate_volatility_cr, weighted_rate_volatility}
use Rattle.class_rates.specs.declared.volatilities.VolatilityNet.{VolatilityNet}
use Rattle.class_rates.specs.Volatilities.{volatilities_view, rule_volatility, AreVolatilities}
use Rattle.class_rates.specs.Unweighed.{volatilities_group, unweighed_volatility}
use Rattle.explain_text.specs.Factors.{rate_vega_lines}
use Rattle.explain_text.specs.Names.{volatility_name}
use Rattle.explain_text.proofs.Weighed.{added}
use Rattle.explain_text.proofs.factors.rates.push_vega.Goals as goal

pub explain-requires : goal.explain-requires
explain-requires c =
    let currency = c.args.currency.now in
    subst AreVolatilities (sym (ap (volatilities_view currency) c.as_slice.ensures.value ∙ c.in_ok-volatilities.ensures currency)) c.requires

pub returns : goal.returns
returns c =
    let p = c.args.params.now in
    let currency = c.args.currency.now in
    let read = volatilities_view currency c.as_slice.result.now in
    let there = ap (volatilities_view currency) c.as_slice.ensures.value ∙ c.in_ok-volatilities.ensures currency in
    added measure.Vega c.args.product (λ (n : VolatilityNet). rule_volatility n.volatility) (volatility_name currency)
    (unweighed_volatility p (volatilities_group p currency read)) (weighted_rate_volatility p (rate_volatility_cr p currency read)) read c.in_ok-factors.factors.items
    c.push_factors.result c.as_slice-2.result.now c.args.text.now c.push_factors.new.text _
    c.as_slice-2.ensures.value c.in_ok-factors.ensures.from c.in_ok-factors.ensures.weighted
    (ap (rate_vega_lines p c.args.product currency) there) c.push_factors.ensures
