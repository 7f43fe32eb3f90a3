use Rattle.std.proofs.Common.{◌≡◌, ◌∙◌, map, ap}
use Rattle.std.proofs.lemmas.Result.{IfOk-weaker}
use Rattle.class_rates.specs.Rates.{rates_view}
use Rattle.class_rates.specs.Unweighed.{rates_group, unweighed_rate, weighing_in}
use Rattle.class_rates.proofs.RateColumns.{rates_made, weighings_are}
use Rattle.class_rates.proofs.delta.CurrencyDeltaMeasured.weighings.Goals as goal

pub returns-clause-made : goal.returns-clause-made
returns-clause-made c = let x = c.args.self.now in rates_made x.params.now x.currency.now (rates_view x.currency.now x.rates.now)

pub returns-clause-listed : goal.returns-clause-listed
returns-clause-listed c =
    let x = c.args.self.now in
    let rates = rates_view x.currency.now x.rates.now in
    let category = c.curve_category-category.result in
    let group = rates_group x.params.now x.currency.now rates in
    IfOk-weaker c.rate_weighings.result
    (λ weighings. weighings.items ≡ map (weighing_in x.params.now category c.currency_group-group.result) x.rates.now)
    (λ weighings. weighings.items ≡ map (λ f. f.from) (map (unweighed_rate x.params.now group) rates))
    (λ weighings e. weighings_are x.params.now c.rate_facts.ensures.weighed x.currency.now x.rates.now c.requires category c.curve_category-category.ensures.weights group weighings.items
    (e ∙ ap (λ g. map (weighing_in x.params.now category g) x.rates.now) c.currency_group-group.ensures))
    c.rate_weighings.ensures
