use Rattle.std.proofs.Common.{◌∙◌, ap, subst, sym}
use Rattle.measured_bucket.specs.SimmKinds.declared.kinds.Measure.TheVariants as measure
use Rattle.measured_bucket.specs.SimmRules.Rates.{rate_cr, weighted_rate}
use Rattle.class_rates.specs.declared.rates.RateNet.{RateNet}
use Rattle.class_rates.specs.Rates.{rates_view, rule_rate, AreRates}
use Rattle.class_rates.specs.Unweighed.{rates_group, unweighed_rate}
use Rattle.explain_text.specs.Factors.{rate_lines}
use Rattle.explain_text.specs.Names.{rate_name}
use Rattle.explain_text.proofs.Weighed.{added}
use Rattle.explain_text.proofs.factors.rates.push_delta.Goals as goal

pub explain-requires : goal.explain-requires
explain-requires c =
    let currency = c.args.currency.now in
    subst (AreRates c.args.params.now) (sym (ap (rates_view currency) c.as_slice.ensures.value ∙ c.in_ok-rates.ensures currency)) c.requires

pub returns : goal.returns
returns c =
    let p = c.args.params.now in
    let currency = c.args.currency.now in
    let read = rates_view currency c.as_slice.result.now in
    let there = ap (rates_view currency) c.as_slice.ensures.value ∙ c.in_ok-rates.ensures currency in
    added measure.Delta c.args.product (λ (n : RateNet). rule_rate n.rate) (rate_name currency)
    (unweighed_rate p (rates_group p currency read)) (weighted_rate p (rate_cr p currency read)) read c.in_ok-factors.factors.items
    c.push_factors.result c.as_slice-2.result.now c.args.text.now c.push_factors.new.text _
    c.as_slice-2.ensures.value c.in_ok-factors.ensures.from c.in_ok-factors.ensures.weighted
    (ap (rate_lines p c.args.product currency) there) c.push_factors.ensures
