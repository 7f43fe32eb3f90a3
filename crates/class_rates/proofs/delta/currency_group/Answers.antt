use Rattle.std.proofs.Common.{◌∙◌, ap, ℤ, FitsSigned, rules}
use Rattle.std.specs.Int.{w64, w128, cast_signed, cast_unsigned}
use Rattle.measured_bucket.proofs.MhUnits.Integers.{same64, same128}
use Rattle.measured_bucket.specs.SimmRules.Params.{Thresholds}
use Rattle.measured_bucket.specs.SimmRules.Rates.{rate_thresholds}
use Rattle.measured_bucket.specs.declared.weighing.Group.{Group}
use Rattle.class_rates.proofs.RateColumns.{group_is, sizes_small}
use Rattle.class_rates.proofs.delta.currency_group.Goals as goal

abbrev with : ℤ → ℤ → Group
with net threshold = record { net = net; threshold = threshold }

pub group_net-requires : goal.group_net-requires
group_net-requires c = sizes_small c.args.params.now c.rate_facts.ensures.weighed c.args.currency.now c.args.rates.now c.requires

pub returns : goal.returns
returns c =
    let threshold = c.rate_thresholds.result.delta in
    let fits : FitsSigned w64 threshold = search rules in
    let net_fits : FitsSigned w128 c.group_net.result = search rules in
    ap (λ n. with n (cast_signed w64 (cast_unsigned w64 threshold))) (same128 c.group_net.result net_fits ∙ c.group_net.ensures ∙ group_is c.args.currency.now c.args.rates.now)
    ∙ ap (with _) (same64 threshold fits ∙ ap (λ (t : Thresholds). t.delta) c.rate_thresholds.ensures)
