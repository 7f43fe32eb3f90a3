use Rattle.std.proofs.Common.{◌≡◌, ◌∙◌, FitsSigned, rules, ap, sym, subst}
use Rattle.std.specs.Int.{w64, w128, cast_signed, cast_unsigned}
use Rattle.measured_bucket.proofs.MhUnits.Integers.{same128, same64}
use Rattle.measured_bucket.specs.SimmRules.ForeignExchange.{fx_weight, fx_threshold}
use Rattle.measured_bucket.specs.SimmParams.Categories.{category_threshold, category_weight}
use Rattle.measured_bucket.specs.WeightedBucket.Group.{CanConcentrate}
use Rattle.measured_bucket.specs.Alone.{weighed_alone}
use Rattle.measured_bucket.proofs.Vegas.{alone_concentrates}
use Rattle.class_exchange.proofs.ByCategory.{weight_is, threshold_is}
use Rattle.class_exchange.proofs.CurrencyColumns.{risk_terms}
use Rattle.class_exchange.proofs.delta.weigh_currency.Goals as goal

pub weigh_alone-requires-clause-concentrates : goal.weigh_alone-requires-clause-concentrates
weigh_alone-requires-clause-concentrates c =
    let p = c.args.params.now in
    let n = c.args.currency.now in
    let net_fits : FitsSigned w128 n.net = search rules in
    let fits : FitsSigned w64 c.fx_threshold-threshold.result = search rules in
    let threshold : c.fx_threshold-threshold.result ≡ fx_threshold p n.currency = c.fx_threshold-threshold.ensures ∙ ap (category_threshold p) c.concentration_category.ensures ∙ threshold_is p n.currency in
    let can = alone_concentrates (fx_weight p n.currency) (fx_threshold p n.currency) n.net (risk_terms p c.facts.ensures.params c.facts.ensures.weighed n.currency (c.requires.risky).other) c.requires.small in
    subst (λ x. CanConcentrate x (cast_signed w64 (cast_unsigned w64 c.fx_threshold-threshold.result))) (sym (same128 n.net net_fits)) (subst (CanConcentrate n.net) (sym (same64 c.fx_threshold-threshold.result fits ∙ threshold)) can)

pub returns : goal.returns
returns c =
    let p = c.args.params.now in
    let n = c.args.currency.now in
    let net_fits : FitsSigned w128 n.net = search rules in
    let fits : FitsSigned w64 c.fx_threshold-threshold.result = search rules in
    let threshold : c.fx_threshold-threshold.result ≡ fx_threshold p n.currency = c.fx_threshold-threshold.ensures ∙ ap (category_threshold p) c.concentration_category.ensures ∙ threshold_is p n.currency in
    let weight : c.fx_weight.result.0 ≡ fx_weight p n.currency = c.fx_weight.ensures ∙ ap (category_weight p) (c.requires.risky).category ∙ weight_is p n.currency (c.requires.risky).other in
    c.weigh_alone.ensures
    ∙ ap (weighed_alone c.fx_weight.result.0 (cast_signed w64 (cast_unsigned w64 c.fx_threshold-threshold.result))) (same128 n.net net_fits)
    ∙ ap (λ t. weighed_alone c.fx_weight.result.0 t n.net) (same64 c.fx_threshold-threshold.result fits ∙ threshold)
    ∙ ap (λ w. weighed_alone w (fx_threshold p n.currency) n.net) weight
