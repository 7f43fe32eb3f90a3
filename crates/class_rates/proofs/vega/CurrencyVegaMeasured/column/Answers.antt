use Rattle.std.proofs.Common.{◌∙◌, ◌*◌, ◌^◌, ◌≤◌, All, map, unsigned_abs, ap, sym, subst, refl, arith}
use Rattle.std.proofs.lemmas.Int.{ints}
use Rattle.std.proofs.lemmas.List.{length-map}
use Rattle.measured_bucket.specs.SimmRules.Rates.{rate_volatility_cr, weighted_rate_volatility}
use Rattle.class_rates.specs.Volatilities.{volatility_view, volatilities_view, weighed_by}
use Rattle.class_rates.proofs.Columns.{made_by}
use Rattle.class_rates.proofs.VolatilityColumns.{vega_small, vega_column, volatilities_correlated}
use Rattle.class_rates.proofs.Rhos.{volatility_rho_at-symmetric, volatility_rho_at-small}
use Rattle.class_rates.proofs.vega.CurrencyVegaMeasured.column.Goals as goal

pub weigh_volatilities-requires-clause-small : goal.weigh_volatilities-requires-clause-small
weigh_volatilities-requires-clause-small c =
    let x = c.args.self.now in
    subst (λ w. All (λ n. unsigned_abs n.net * unsigned_abs w ≤ 10 ^ 28) x.volatilities.now) (sym c.rate_vrw.ensures.value)
    (vega_small x.currency.now x.volatilities.now c.requires x.params.now (c.rate_facts.ensures.weighed x.currency.now).vega c.facts.ensures.params.ir.vrw)

pub weigh_volatilities-requires-clause-below : goal.weigh_volatilities-requires-clause-below
weigh_volatilities-requires-clause-below c = omega (arith, ints, c.currency_cr-cr.ensures.from_one, c.currency_cr-cr.ensures.below)

pub invariant_of-rho : goal.invariant_of-rho
invariant_of-rho c =
    let x = c.args.self.now in
    record { symmetric = volatility_rho_at-symmetric x.params.now c.facts.ensures.params x.volatilities.now; at_most_one = volatility_rho_at-small x.params.now c.facts.ensures.params x.volatilities.now }

pub invariant_of-result : goal.invariant_of-result
invariant_of-result c =
    let x = c.args.self.now in
    let made = c.in_ok-factors.ensures ∙ ap (λ w. map (weighed_by w c.currency_cr-cr.result.0) x.volatilities.now) c.rate_vrw.ensures.value in
    let its = vega_column x.currency.now x.volatilities.now c.requires x.params.now (c.rate_facts.ensures.weighed x.currency.now).vega c.facts.ensures.params.ir.vrw c.currency_cr-cr.result.0 c.in_ok-factors.factors.items made c.currency_cr-cr.ensures.value in
    record { sized = sym (its.count ∙ length-map x.volatilities.now (volatility_view x.currency.now)); from_one = its.from_one; below = its.below; in_range = its.in_range; cr_low = c.currency_cr-cr.ensures.from_one; cr_high = c.currency_cr-cr.ensures.below }

pub returns-clause-made : goal.returns-clause-made
returns-clause-made c =
    let x = c.args.self.now in
    let made = c.in_ok-factors.ensures ∙ ap (λ w. map (weighed_by w c.currency_cr-cr.result.0) x.volatilities.now) c.rate_vrw.ensures.value in
    let volatilities = volatilities_view x.currency.now x.volatilities.now in
    made_by (weighted_rate_volatility x.params.now (rate_volatility_cr x.params.now x.currency.now volatilities)) volatilities c.in_ok-factors.factors.items (vega_column x.currency.now x.volatilities.now c.requires x.params.now (c.rate_facts.ensures.weighed x.currency.now).vega c.facts.ensures.params.ir.vrw c.currency_cr-cr.result.0 c.in_ok-factors.factors.items made c.currency_cr-cr.ensures.value).made

pub returns-clause-correlated : goal.returns-clause-correlated
returns-clause-correlated c =
    let x = c.args.self.now in
    volatilities_correlated x.params.now x.currency.now (weighted_rate_volatility x.params.now (rate_volatility_cr x.params.now x.currency.now (volatilities_view x.currency.now x.volatilities.now))) (λ a. refl) x.volatilities.now c.requires

pub returns-clause-near : goal.returns-clause-near
returns-clause-near c =
    let x = c.args.self.now in
    let made = c.in_ok-factors.ensures ∙ ap (λ w. map (weighed_by w c.currency_cr-cr.result.0) x.volatilities.now) c.rate_vrw.ensures.value in
    (vega_column x.currency.now x.volatilities.now c.requires x.params.now (c.rate_facts.ensures.weighed x.currency.now).vega c.facts.ensures.params.ir.vrw c.currency_cr-cr.result.0 c.in_ok-factors.factors.items made c.currency_cr-cr.ensures.value).near
