use Rattle.std.proofs.Common.{◌∙◌, FitsSigned, rules, ap}
use Rattle.std.specs.Int.{w64, w128, cast_signed, cast_unsigned}
use Rattle.measured_bucket.proofs.MhUnits.Integers.{same128, same64}
use Rattle.measured_bucket.specs.SimmRules.ForeignExchange.{fx_threshold}
use Rattle.measured_bucket.specs.SimmParams.Categories.{category_threshold, category_weight}
use Rattle.measured_bucket.specs.Explained.{from_itself}
use Rattle.class_exchange.proofs.ByCategory.{weight_is, threshold_is}
use Rattle.class_exchange.proofs.delta.currency_weighing.Goals as goal

pub returns : goal.returns
returns c =
    let p = c.args.params.now in
    let n = c.args.currency.now in
    let net_fits : FitsSigned w128 n.net = search rules in
    let fits : FitsSigned w64 c.fx_threshold-threshold.result = search rules in
    c.of_itself.ensures
    ∙ ap (from_itself c.fx_weight.result.0 (cast_signed w64 (cast_unsigned w64 c.fx_threshold-threshold.result))) (same128 n.net net_fits)
    ∙ ap (λ t. from_itself c.fx_weight.result.0 t n.net) (same64 c.fx_threshold-threshold.result fits ∙ c.fx_threshold-threshold.ensures ∙ ap (category_threshold p) c.concentration_category.ensures ∙ threshold_is p n.currency)
    ∙ ap (λ w. from_itself w (fx_threshold p n.currency) n.net) (c.fx_weight.ensures ∙ ap (category_weight p) c.requires.category ∙ weight_is p n.currency c.requires.other)
