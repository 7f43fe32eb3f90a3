use Rattle.std.proofs.Common.{◌∙◌, sym, arith}
use Rattle.std.proofs.lemmas.Int.{ints}
use Rattle.std.proofs.lemmas.List.{length-map}
use Rattle.measured_bucket.specs.SimmRules.Rates.{rate_cr, weighted_rate}
use Rattle.class_rates.specs.Rates.{rate_view, rates_view}
use Rattle.class_rates.proofs.Columns.{made_by}
use Rattle.class_rates.proofs.RateColumns.{nets_small, nets_column, rates_correlated}
use Rattle.class_rates.proofs.Rhos.{rho_at-symmetric, rho_at-small}
use Rattle.class_rates.proofs.delta.CurrencyDeltaMeasured.column.Goals as goal

pub weigh_rates-requires-clause-small : goal.weigh_rates-requires-clause-small
weigh_rates-requires-clause-small c =
    let x = c.args.self.now in
    nets_small x.params.now c.rate_facts.ensures.weighed x.currency.now x.rates.now c.requires c.curve_category-category.result c.curve_category-category.ensures.weights

pub weigh_rates-requires-clause-below : goal.weigh_rates-requires-clause-below
weigh_rates-requires-clause-below c = omega (arith, ints, c.currency_cr-cr.ensures.from_one, c.currency_cr-cr.ensures.below)

pub invariant_of-rho : goal.invariant_of-rho
invariant_of-rho c =
    let x = c.args.self.now in
    record { symmetric = rho_at-symmetric x.params.now c.facts.ensures.params x.rates.now; at_most_one = rho_at-small x.params.now c.facts.ensures.params x.rates.now }

pub invariant_of-result : goal.invariant_of-result
invariant_of-result c =
    let x = c.args.self.now in
    let its = nets_column x.params.now c.rate_facts.ensures.weighed x.currency.now x.rates.now c.requires c.curve_category-category.result c.curve_category-category.ensures.weights c.currency_cr-cr.result.0 c.in_ok-factors.factors.items c.in_ok-factors.ensures c.currency_cr-cr.ensures.value in
    record { sized = sym (its.count ∙ length-map x.rates.now (rate_view x.currency.now)); from_one = its.from_one; below = its.below; in_range = its.in_range; cr_low = c.currency_cr-cr.ensures.from_one; cr_high = c.currency_cr-cr.ensures.below }

pub returns-clause-made : goal.returns-clause-made
returns-clause-made c =
    let x = c.args.self.now in
    let rates = rates_view x.currency.now x.rates.now in
    made_by (weighted_rate x.params.now (rate_cr x.params.now x.currency.now rates)) rates c.in_ok-factors.factors.items (nets_column x.params.now c.rate_facts.ensures.weighed x.currency.now x.rates.now c.requires c.curve_category-category.result c.curve_category-category.ensures.weights c.currency_cr-cr.result.0 c.in_ok-factors.factors.items c.in_ok-factors.ensures c.currency_cr-cr.ensures.value).made

pub returns-clause-correlated : goal.returns-clause-correlated
returns-clause-correlated c =
    let x = c.args.self.now in
    rates_correlated x.params.now x.currency.now (rate_cr x.params.now x.currency.now (rates_view x.currency.now x.rates.now)) x.rates.now c.requires

pub returns-clause-near : goal.returns-clause-near
returns-clause-near c =
    let x = c.args.self.now in
    (nets_column x.params.now c.rate_facts.ensures.weighed x.currency.now x.rates.now c.requires c.curve_category-category.result c.curve_category-category.ensures.weights c.currency_cr-cr.result.0 c.in_ok-factors.factors.items c.in_ok-factors.ensures c.currency_cr-cr.ensures.value).near
