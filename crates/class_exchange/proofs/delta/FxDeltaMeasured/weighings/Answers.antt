use Rattle.std.proofs.Common.{◌≡◌, map, refl}
use Rattle.std.proofs.lemmas.Result.{IfOk-weaker}
use Rattle.measured_bucket.specs.SimmRules.Bucket.{weighted_value}
use Rattle.measured_bucket.specs.SimmRules.ForeignExchange.{weighted_currency}
use Rattle.measured_bucket.proofs.Explaining.{made_by, listed_by}
use Rattle.class_exchange.specs.Currencies.{currency_view, currencies_view}
use Rattle.class_exchange.specs.Unweighed.{unweighed_currency}
use Rattle.class_exchange.proofs.delta.FxDeltaMeasured.weighings.Goals as goal

pub currency_weighings-requires : goal.currency_weighings-requires
currency_weighings-requires c = c.requires.risky

pub returns-clause-made : goal.returns-clause-made
returns-clause-made c =
    let x = c.args.self.now in
    made_by weighted_value (unweighed_currency x.params.now) (weighted_currency x.params.now) (λ a. refl) (currencies_view x.currencies.now)

pub returns-clause-listed : goal.returns-clause-listed
returns-clause-listed c =
    let x = c.args.self.now in
    IfOk-weaker c.currency_weighings.result
    (λ weighings. weighings.items ≡ map (λ net. (unweighed_currency x.params.now (currency_view net)).from) x.currencies.now)
    (λ weighings. weighings.items ≡ map (λ f. f.from) (map (unweighed_currency x.params.now) (currencies_view x.currencies.now)))
    (λ weighings. listed_by (unweighed_currency x.params.now) currency_view x.currencies.now weighings.items) c.currency_weighings.ensures
