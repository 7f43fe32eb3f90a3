use Rattle.std.proofs.Common.{◌∙◌, sym, refl, arith}
use Rattle.std.proofs.lemmas.Int.{ints}
use Rattle.std.proofs.lemmas.List.{length-map}
use Rattle.measured_bucket.specs.SimmRules.Rates.{curved_rate_volatility}
use Rattle.class_rates.specs.Volatilities.{volatility_view, volatilities_view}
use Rattle.class_rates.proofs.Columns.{made_by}
use Rattle.class_rates.proofs.VolatilityColumns.{nets_small, curved_column, volatilities_correlated}
use Rattle.class_rates.proofs.Rhos.{volatility_rho_at-symmetric, volatility_rho_at-small}
use Rattle.class_rates.proofs.curvature.CurrencyCurvatureMeasured.column.Goals as goal

pub curve_volatilities-requires : goal.curve_volatilities-requires
curve_volatilities-requires c = nets_small c.args.self.now.currency.now c.args.self.now.volatilities.now c.requires

pub invariant_of-rho : goal.invariant_of-rho
invariant_of-rho c =
    let x = c.args.self.now in
    record { symmetric = volatility_rho_at-symmetric x.params.now c.facts.ensures.params x.volatilities.now; at_most_one = volatility_rho_at-small x.params.now c.facts.ensures.params x.volatilities.now }

pub invariant_of-result : goal.invariant_of-result
invariant_of-result c =
    let x = c.args.self.now in
    let its = curved_column x.currency.now x.volatilities.now c.requires c.in_ok-factors.factors.items c.in_ok-factors.ensures in
    record { sized = sym (its.count ∙ length-map x.volatilities.now (volatility_view x.currency.now)); from_one = its.from_one; below = its.below; in_range = its.in_range; cr_low = omega (arith, ints); cr_high = omega (arith, ints) }

pub returns-clause-made : goal.returns-clause-made
returns-clause-made c =
    let x = c.args.self.now in
    made_by curved_rate_volatility (volatilities_view x.currency.now x.volatilities.now) c.in_ok-factors.factors.items (curved_column x.currency.now x.volatilities.now c.requires c.in_ok-factors.factors.items c.in_ok-factors.ensures).made

pub returns-clause-correlated : goal.returns-clause-correlated
returns-clause-correlated c =
    let x = c.args.self.now in
    volatilities_correlated x.params.now x.currency.now curved_rate_volatility (λ a. refl) x.volatilities.now c.requires

pub returns-clause-near : goal.returns-clause-near
returns-clause-near c =
    let x = c.args.self.now in
    (curved_column x.currency.now x.volatilities.now c.requires c.in_ok-factors.factors.items c.in_ok-factors.ensures).near
