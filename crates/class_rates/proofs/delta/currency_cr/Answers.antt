use Rattle.std.proofs.Common.{◌∙◌, ◌*◌, pos, ◌≤ℤ◌, ◌≤◌, ◌^◌, unsigned_abs, FitsSigned, rules, ap, sym, subst}
use Rattle.std.specs.Int.{w64, w128, cast_signed, cast_unsigned}
use Rattle.measured_bucket.proofs.MhUnits.Integers.{same64, same128}
use Rattle.measured_bucket.specs.SimmRules.Concentration.{cr}
use Rattle.measured_bucket.specs.SimmRules.Params.{Thresholds}
use Rattle.measured_bucket.specs.SimmRules.Rates.{rate_thresholds}
use Rattle.class_rates.specs.Weighing.{group_net}
use Rattle.class_rates.proofs.RateColumns.{sizes_small, threshold_low, threshold_high, net_thick, cr_is}
use Rattle.class_rates.proofs.delta.currency_cr.Goals as goal

pub group_net-requires : goal.group_net-requires
group_net-requires c = sizes_small c.args.params.now c.rate_facts.ensures.weighed c.args.currency.now c.args.rates.now c.requires

pub cr-requires-clause-positive : goal.cr-requires-clause-positive
cr-requires-clause-positive c =
    let fits : FitsSigned w64 c.rate_thresholds.result.delta = search rules in
    subst (λ t. pos 1 ≤ℤ t) (sym (same64 c.rate_thresholds.result.delta fits ∙ ap (λ (t : Thresholds). t.delta) c.rate_thresholds.ensures)) (threshold_low c.args.params.now c.rate_facts.ensures.weighed c.args.currency.now c.args.rates.now c.requires)

pub cr-requires-clause-threshold_in_range : goal.cr-requires-clause-threshold_in_range
cr-requires-clause-threshold_in_range c =
    let fits : FitsSigned w64 c.rate_thresholds.result.delta = search rules in
    subst (λ t. t ≤ℤ pos (10 ^ 15)) (sym (same64 c.rate_thresholds.result.delta fits ∙ ap (λ (t : Thresholds). t.delta) c.rate_thresholds.ensures)) (threshold_high c.args.params.now c.rate_facts.ensures.weighed c.args.currency.now c.args.rates.now c.requires)

pub cr-requires-clause-net_in_range : goal.cr-requires-clause-net_in_range
cr-requires-clause-net_in_range c =
    let net_fits : FitsSigned w128 c.group_net.result = search rules in
    let fits : FitsSigned w64 c.rate_thresholds.result.delta = search rules in
    subst (λ t. unsigned_abs (cast_signed w128 (cast_unsigned w128 c.group_net.result)) ≤ 120000 * unsigned_abs t) (sym (same64 c.rate_thresholds.result.delta fits ∙ ap (λ (t : Thresholds). t.delta) c.rate_thresholds.ensures))
    (subst (λ n. unsigned_abs n ≤ 120000 * unsigned_abs (rate_thresholds c.args.params.now c.args.currency.now).delta) (sym (same128 c.group_net.result net_fits ∙ c.group_net.ensures)) (net_thick c.args.params.now c.rate_facts.ensures.weighed c.args.currency.now c.args.rates.now c.requires))

pub returns-clause-value : goal.returns-clause-value
returns-clause-value c =
    let net_fits : FitsSigned w128 c.group_net.result = search rules in
    let fits : FitsSigned w64 c.rate_thresholds.result.delta = search rules in
    c.cr.ensures.value ∙ ap (λ n. cr n (cast_signed w64 (cast_unsigned w64 c.rate_thresholds.result.delta))) (same128 c.group_net.result net_fits ∙ c.group_net.ensures)
    ∙ ap (cr (group_net c.args.rates.now)) (same64 c.rate_thresholds.result.delta fits ∙ ap (λ (t : Thresholds). t.delta) c.rate_thresholds.ensures) ∙ cr_is c.args.params.now c.rate_facts.ensures.weighed c.args.currency.now c.args.rates.now c.requires
