use Rattle.std.proofs.Common.{refl}
use Rattle.class_rates.specs.SimmRules.Rates.{currency_curvature_value}
use Rattle.class_rates.specs.MeasuredBucket.Values.{alone}
use Rattle.class_rates.specs.Volatilities.{volatilities_among}
use Rattle.class_margin.proofs.curvature.ValueSized.{value_sized}
use Rattle.class_margin.proofs.value.curvature.rates.Goals as goal

pub returns-clause-sized : goal.returns-clause-sized
returns-clause-sized g c =
    let own = volatilities_among c.args.currency.now c.args.lent.now.factors in
    value_sized c.currency_curvature.result alone own (currency_curvature_value c.args.params.now own) c.currency_curvature.ensures.value refl c.currency_curvature.ensures.sound c.currency_curvature.ensures.near
