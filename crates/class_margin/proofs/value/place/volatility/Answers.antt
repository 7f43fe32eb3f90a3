use Rattle.std.proofs.Common.{◌∙◌, ap}
use Rattle.std.specs.Prelude.{option_map}
use Rattle.std.specs.Option.{option_and_then}
use Rattle.class_rates.specs.FactorBook.declared.value.PlaceValue.TheVariants as value
use Rattle.class_margin.specs.value.Curvature.{curvature_of}
use Rattle.class_margin.proofs.value.place.volatility.Goals as goal

pub returns-clause-value : goal.returns-clause-value
returns-clause-value g c =
    let p = c.args.params.now in
    let slot = c.args.slot.now in
    let its = c.args.lent.now.factors in
    ap (option_map (value.Volatility slot))
    (ap (option_map (λ m. record { vega = c.in_ok-vega.vega; curvature = m })) c.in_ok-curvature.ensures.value
    ∙ ap (option_and_then (λ v. option_map (λ m. record { vega = v; curvature = m }) (curvature_of p slot its))) c.in_ok-vega.ensures.value)

pub returns-clause-sized : goal.returns-clause-sized
returns-clause-sized g c = (c.in_ok-vega.ensures.sized, c.in_ok-curvature.ensures.sized)
