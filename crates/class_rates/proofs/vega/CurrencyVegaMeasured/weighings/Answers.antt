use Rattle.std.proofs.Common.{◌≡◌, ◌∙◌, map, ap, refl}
use Rattle.std.proofs.lemmas.Result.{IfOk-weaker}
use Rattle.measured_bucket.specs.SimmRules.Bucket.{weighted_value}
use Rattle.measured_bucket.specs.SimmRules.Rates.{rate_volatility_cr, weighted_rate_volatility}
use Rattle.measured_bucket.proofs.Explaining.{made_by, listed_by}
use Rattle.class_rates.specs.Volatilities.{volatility_view, volatilities_view}
use Rattle.class_rates.specs.Unweighed.{volatilities_group, volatility_from, unweighed_volatility}
use Rattle.class_rates.proofs.vega.CurrencyVegaMeasured.weighings.Goals as goal

pub returns-clause-made : goal.returns-clause-made
returns-clause-made c =
    let x = c.args.self.now in
    let p = x.params.now in
    let volatilities = volatilities_view x.currency.now x.volatilities.now in
    made_by weighted_value (unweighed_volatility p (volatilities_group p x.currency.now volatilities)) (weighted_rate_volatility p (rate_volatility_cr p x.currency.now volatilities)) (λ a. refl) volatilities

pub returns-clause-listed : goal.returns-clause-listed
returns-clause-listed c =
    let x = c.args.self.now in
    let p = x.params.now in
    let nets = x.volatilities.now in
    let volatilities = volatilities_view x.currency.now nets in
    let group = volatilities_group p x.currency.now volatilities in
    IfOk-weaker c.volatility_weighings.result
    (λ weighings. weighings.items ≡ map (λ n. volatility_from c.rate_vrw.result.0 c.currency_group-group.result n.net) nets)
    (λ weighings. weighings.items ≡ map (λ f. f.from) (map (unweighed_volatility p group) volatilities))
    (λ weighings e. listed_by (unweighed_volatility p group) (volatility_view x.currency.now) nets weighings.items
    (e ∙ ap (λ w. map (λ n. volatility_from w c.currency_group-group.result n.net) nets) c.rate_vrw.ensures.value ∙ ap (λ g. map (λ n. volatility_from p.ir.vrw g n.net) nets) c.currency_group-group.ensures))
    c.volatility_weighings.ensures
