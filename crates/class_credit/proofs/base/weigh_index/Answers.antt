use Rattle.std.proofs.Common.{◌∙◌, ap, sym, subst, pos, refl, ◌*◌, ◌^◌, ◌≤◌, FitsSigned, rules, unsigned_abs, arith}
use Rattle.std.specs.Int.{w128, w64}
use Rattle.measured_bucket.specs.MhUnits.Rounding.{away}
use Rattle.measured_bucket.proofs.MhUnits.Integers.{same128, same64}
use Rattle.measured_bucket.proofs.WeightedBucket.Passing.{factors_passed, product_passed, weight_net_fits}
use Rattle.measured_bucket.proofs.Weighings.{weighed_with}
use Rattle.class_credit.proofs.base.weigh_index.Goals as goal

pub overflow_mul-from : goal.overflow_mul-from
overflow_mul-from c =
    let rate_fits : FitsSigned w64 c.args.weight.0 = search rules in
    let fits : FitsSigned w128 c.from.result = search rules in
    let small : unsigned_abs c.args.net * unsigned_abs c.args.weight.0 ≤ 10 ^ 28 = omega (arith, c.requires) in
    subst (FitsSigned w128) (sym (factors_passed c.from.result c.args.net c.args.weight.0 c.args.net fits c.ranges.net (c.from.ensures ∙ same64 c.args.weight.0 rate_fits) refl)) (weight_net_fits c.args.weight.0 c.args.net small)

pub returns : goal.returns
returns c =
    let rate_fits : FitsSigned w64 c.args.weight.0 = search rules in
    let fits : FitsSigned w128 c.from.result = search rules in
    let answer_fits : FitsSigned w128 c.div_away.result = search rules in
    let small : unsigned_abs c.args.net * unsigned_abs c.args.weight.0 ≤ 10 ^ 28 = omega (arith, c.requires) in
    let product = product_passed c.from.result c.args.net c.args.weight.0 c.args.net fits c.ranges.net (c.from.ensures ∙ same64 c.args.weight.0 rate_fits) refl (weight_net_fits c.args.weight.0 c.args.net small) in
    ap (λ z. weighed_with z (record { 0 = pos 1000000 })) (same128 c.div_away.result answer_fits ∙ c.div_away.ensures.value ∙ ap (λ z. away z (pos (10 ^ 4))) product)
