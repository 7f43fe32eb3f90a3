use Rattle.std.proofs.Common.{◌∙◌, sym}
use Rattle.std.proofs.lemmas.Simd.{map-map}
use Rattle.measured_bucket.specs.SimmRules.Bucket.{Weighted}
use Rattle.measured_bucket.specs.SimmRules.Risks.{RateVolatility, Amount}
use Rattle.measured_bucket.specs.SimmRules.Rates.{VolatilityIn, weighted_rate_volatility, rate_volatility_cr}
use Rattle.class_rates.specs.Volatilities.{volatility_view, volatilities_view}
use Rattle.class_rates.proofs.vega.CurrencyVegaMeasured.nets.Goals as goal

pub returns : goal.returns
returns c =
    let x = c.args.self.now in
    let volatilities = volatilities_view x.currency.now x.volatilities.now in
    sym (map-map (λ (f : Weighted RateVolatility). f.of) (weighted_rate_volatility x.params.now (rate_volatility_cr x.params.now x.currency.now volatilities)) volatilities ∙ map-map (λ (a : Amount VolatilityIn). (a.of).volatility) (volatility_view x.currency.now) x.volatilities.now)
