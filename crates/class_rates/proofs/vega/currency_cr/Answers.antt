use Rattle.std.proofs.Common.{◌∙◌, ◌*◌, pos, ◌≤ℤ◌, ◌≤◌, ◌^◌, unsigned_abs, FitsSigned, rules, ap, sym, subst}
use Rattle.std.specs.Int.{w64, w128, cast_signed, cast_unsigned}
use Rattle.measured_bucket.proofs.MhUnits.Integers.{same64, same128}
use Rattle.measured_bucket.specs.SimmRules.Concentration.{cr}
use Rattle.measured_bucket.specs.SimmRules.Params.{Thresholds}
use Rattle.measured_bucket.specs.SimmRules.Rates.{rate_thresholds}
use Rattle.class_rates.specs.Volatilities.{group_net}
use Rattle.class_rates.proofs.VolatilityColumns.{sizes_small, vega_thick, cr_is}
use Rattle.class_rates.proofs.vega.currency_cr.Goals as goal

pub group_net-requires : goal.group_net-requires
group_net-requires c = sizes_small c.args.currency.now c.args.volatilities.now c.requires

pub cr-requires-clause-positive : goal.cr-requires-clause-positive
cr-requires-clause-positive c =
    let fits : FitsSigned w64 c.rate_thresholds.result.vega = search rules in
    subst (λ t. pos 1 ≤ℤ t) (sym (same64 c.rate_thresholds.result.vega fits ∙ ap (λ (t : Thresholds). t.vega) c.rate_thresholds.ensures)) ((c.rate_facts.ensures.weighed c.args.currency.now).vega.threshold_low)

pub cr-requires-clause-threshold_in_range : goal.cr-requires-clause-threshold_in_range
cr-requires-clause-threshold_in_range c =
    let fits : FitsSigned w64 c.rate_thresholds.result.vega = search rules in
    subst (λ t. t ≤ℤ pos (10 ^ 15)) (sym (same64 c.rate_thresholds.result.vega fits ∙ ap (λ (t : Thresholds). t.vega) c.rate_thresholds.ensures)) ((c.rate_facts.ensures.weighed c.args.currency.now).vega.threshold_high)

pub cr-requires-clause-net_in_range : goal.cr-requires-clause-net_in_range
cr-requires-clause-net_in_range c =
    let net_fits : FitsSigned w128 c.group_net.result = search rules in
    let fits : FitsSigned w64 c.rate_thresholds.result.vega = search rules in
    subst (λ t. unsigned_abs (cast_signed w128 (cast_unsigned w128 c.group_net.result)) ≤ 120000 * unsigned_abs t) (sym (same64 c.rate_thresholds.result.vega fits ∙ ap (λ (t : Thresholds). t.vega) c.rate_thresholds.ensures))
    (subst (λ n. unsigned_abs n ≤ 120000 * unsigned_abs (rate_thresholds c.args.params.now c.args.currency.now).vega) (sym (same128 c.group_net.result net_fits ∙ c.group_net.ensures)) (vega_thick c.args.currency.now c.args.volatilities.now c.requires c.args.params.now (c.rate_facts.ensures.weighed c.args.currency.now).vega))

pub returns-clause-value : goal.returns-clause-value
returns-clause-value c =
    let net_fits : FitsSigned w128 c.group_net.result = search rules in
    let fits : FitsSigned w64 c.rate_thresholds.result.vega = search rules in
    c.cr.ensures.value ∙ ap (λ n. cr n (cast_signed w64 (cast_unsigned w64 c.rate_thresholds.result.vega))) (same128 c.group_net.result net_fits ∙ c.group_net.ensures)
    ∙ ap (cr (group_net c.args.volatilities.now)) (same64 c.rate_thresholds.result.vega fits ∙ ap (λ (t : Thresholds). t.vega) c.rate_thresholds.ensures) ∙ cr_is c.args.currency.now c.args.volatilities.now c.requires c.args.params.now (c.rate_facts.ensures.weighed c.args.currency.now).vega
