use Rattle.std.proofs.Common.{◌≡◌, ◌∙◌, ◌*◌, ◌^◌, ◌≤◌, pos, ◌≤ℤ◌, FitsSigned, rules, unsigned_abs, ap, sym, subst, arith}
use Rattle.std.specs.Int.{w128, w64, cast_signed, cast_unsigned}
use Rattle.simm_params.proofs.MhUnits.Integers.{same128, same64}
use Rattle.simm_params.specs.SimmRules.Concentration.{cr}
use Rattle.simm_params.specs.SimmRules.Bucket.{weighted_value}
use Rattle.measured_bucket.proofs.Weighings.{weighed_is}
use Rattle.measured_bucket.proofs.alone.weigh_alone.Goals as goal

pub cr-cr-requires-clause-positive : goal.cr-cr-requires-clause-positive
cr-cr-requires-clause-positive c = subst (λ t. pos 1 ≤ℤ t) (sym (same64 c.args.threshold c.ranges.threshold)) c.requires.concentrates.positive

pub cr-cr-requires-clause-threshold_in_range : goal.cr-cr-requires-clause-threshold_in_range
cr-cr-requires-clause-threshold_in_range c = subst (λ t. t ≤ℤ pos (10 ^ 15)) (sym (same64 c.args.threshold c.ranges.threshold)) c.requires.concentrates.threshold_in_range

pub cr-cr-requires-clause-net_in_range : goal.cr-cr-requires-clause-net_in_range
cr-cr-requires-clause-net_in_range c =
    omega (
      arith,
      ap unsigned_abs (same128 c.args.amount c.ranges.amount),
      ap unsigned_abs (same64 c.args.threshold c.ranges.threshold),
      c.requires.concentrates.net_in_range,
    )

pub weigh-requires-clause-small : goal.weigh-requires-clause-small
weigh-requires-clause-small c = subst (λ z. unsigned_abs z * unsigned_abs c.args.weight.0 ≤ 10 ^ 28) (sym (same128 c.args.amount c.ranges.amount)) c.requires.small

pub returns : goal.returns
returns c =
    let weighed_fits : FitsSigned w128 c.weigh.result = search rules in
    let amount = same128 c.args.amount c.ranges.amount in
    let factor : c.cr-cr.result.0 ≡ cr c.args.amount c.args.threshold =
    c.cr-cr.ensures.value ∙ ap (λ x. cr x (cast_signed w64 (cast_unsigned w64 c.args.threshold))) amount ∙ ap (cr c.args.amount) (same64 c.args.threshold c.ranges.threshold) in
    let value : c.weigh.result ≡ weighted_value c.args.weight.0 c.args.amount (cr c.args.amount c.args.threshold) =
    c.weigh.ensures ∙ ap (λ x. weighted_value c.args.weight.0 x c.cr-cr.result.0) amount ∙ ap (weighted_value c.args.weight.0 c.args.amount) factor in
    weighed_is _ c.cr-cr.result _ _ (same128 c.weigh.result weighed_fits ∙ value) factor
