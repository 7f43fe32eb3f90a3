use Rattle.class_rates.proofs.RateColumns.{weight_positive}
use Rattle.class_margin.proofs.rates_delta.Wholes.{is_bucket}
use Rattle.class_margin.proofs.value.Ready.{measurable}
use Rattle.class_margin.proofs.value.laws.places_can_be_measured.Goals as goal

pub returns : goal.returns
returns c = λ fs place its some.
    let p = c.args.params.now in
    let weighed = c.rate_facts.ensures.weighed in
    measurable p c.facts.ensures.params
    (record { currencies = λ x. (c.facts.ensures.weighed x).weight_low; rates = weight_positive p weighed; each = λ ss class. is_bucket p ss c.facts.ensures.params weighed class })
    fs its (c.factors_are_netted.ensures.sizes its.held) place some
