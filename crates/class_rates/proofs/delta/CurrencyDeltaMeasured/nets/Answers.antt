use Rattle.std.proofs.Common.{◌∙◌, sym}
use Rattle.std.proofs.lemmas.Simd.{map-map}
use Rattle.measured_bucket.specs.SimmRules.Bucket.{Weighted}
use Rattle.measured_bucket.specs.SimmRules.Risks.{Rate, Amount}
use Rattle.measured_bucket.specs.SimmRules.Rates.{RateIn, weighted_rate, rate_cr}
use Rattle.class_rates.specs.Rates.{rate_view, rates_view}
use Rattle.class_rates.proofs.delta.CurrencyDeltaMeasured.nets.Goals as goal

pub returns : goal.returns
returns c =
    let x = c.args.self.now in
    let rates = rates_view x.currency.now x.rates.now in
    sym (map-map (λ (f : Weighted Rate). f.of) (weighted_rate x.params.now (rate_cr x.params.now x.currency.now rates)) rates ∙ map-map (λ (a : Amount RateIn). (a.of).rate) (rate_view x.currency.now) x.rates.now)
