use Rattle.std.proofs.Common.{◌∙◌, ℕ, List, sym}
use Rattle.std.proofs.lemmas.Simd.{map-map}
use Rattle.measured_bucket.specs.SimmRules.Bucket.{Weighted}
use Rattle.measured_bucket.specs.SimmRules.Risks.{Amount}
use Rattle.measured_bucket.specs.SimmRules.ForeignExchange.{weighted_currency}
use Rattle.class_exchange.specs.Currencies.{currency_view, currencies_view}
use Rattle.class_exchange.proofs.delta.FxDeltaMeasured.nets.Goals as goal

pub returns : goal.returns
returns c =
    let x = c.args.self.now in
    sym (map-map (λ (f : Weighted (List ℕ)). f.of) (weighted_currency x.params.now) (currencies_view x.currencies.now) ∙ map-map (λ (a : Amount (List ℕ)). a.of) currency_view x.currencies.now)
