use Rattle.std.proofs.Common.{◌≡◌, ◌∙◌, ap, sym, subst, pos, refl, ◌^◌, ◌*ℤ◌, FitsSigned, rules}
use Rattle.std.specs.Int.{w128, w64, cast_signed, cast_unsigned}
use Rattle.concentration.specs.MhUnits.Rounding.{away}
use Rattle.concentration.proofs.MhUnits.Integers.{same128, same64}
use Rattle.weighted_bucket.proofs.Passing.{factors_passed, product_passed, weight_net_fits, weighted_fits}
use Rattle.weighted_bucket.proofs.weighed.weigh.Goals as goal

pub overflow_mul-product : goal.overflow_mul-product
overflow_mul-product c =
    let rate_fits : FitsSigned w64 c.args.weight.0 = search rules in
    let fits : FitsSigned w128 c.from.result = search rules in
    subst (FitsSigned w128) (sym (factors_passed c.from.result c.args.x c.args.weight.0 c.args.x fits c.ranges.x (c.from.ensures ∙ same64 c.args.weight.0 rate_fits) refl)) (weight_net_fits c.args.weight.0 c.args.x c.requires.small)

pub overflow_mul-product-2 : goal.overflow_mul-product-2
overflow_mul-product-2 c =
    let rate_fits : FitsSigned w64 c.args.weight.0 = search rules in
    let factor_fits : FitsSigned w64 c.args.cr.0 = search rules in
    let fits : FitsSigned w128 c.from.result = search rules in
    let fits-2 : FitsSigned w128 c.from-2.result = search rules in
    let first = product_passed c.from.result c.args.x c.args.weight.0 c.args.x fits c.ranges.x (c.from.ensures ∙ same64 c.args.weight.0 rate_fits) refl (weight_net_fits c.args.weight.0 c.args.x c.requires.small) in
    let second : cast_signed w128 (cast_unsigned w128 c.from-2.result) ≡ c.args.cr.0 = same128 c.from-2.result fits-2 ∙ c.from-2.ensures ∙ same64 c.args.cr.0 factor_fits in
    subst (FitsSigned w128) (sym (ap (λ z. z *ℤ cast_signed w128 (cast_unsigned w128 c.from-2.result)) first ∙ ap (λ z. c.args.weight.0 *ℤ c.args.x *ℤ z) second)) (weighted_fits c.args.weight.0 c.args.x c.args.cr.0 c.requires.small c.requires.below)

pub returns : goal.returns
returns c =
    let rate_fits : FitsSigned w64 c.args.weight.0 = search rules in
    let factor_fits : FitsSigned w64 c.args.cr.0 = search rules in
    let fits : FitsSigned w128 c.from.result = search rules in
    let fits-2 : FitsSigned w128 c.from-2.result = search rules in
    let answer_fits : FitsSigned w128 c.div_away.result = search rules in
    let first = product_passed c.from.result c.args.x c.args.weight.0 c.args.x fits c.ranges.x (c.from.ensures ∙ same64 c.args.weight.0 rate_fits) refl (weight_net_fits c.args.weight.0 c.args.x c.requires.small) in
    let second : cast_signed w128 (cast_unsigned w128 c.from-2.result) ≡ c.args.cr.0 = same128 c.from-2.result fits-2 ∙ c.from-2.ensures ∙ same64 c.args.cr.0 factor_fits in
    same128 c.div_away.result answer_fits ∙ c.div_away.ensures.value
    ∙ ap (λ z. away (cast_signed w128 (cast_unsigned w128 (z *ℤ cast_signed w128 (cast_unsigned w128 c.from-2.result)))) (pos (10 ^ 10))) first
    ∙ ap (λ z. away (cast_signed w128 (cast_unsigned w128 (c.args.weight.0 *ℤ c.args.x *ℤ z))) (pos (10 ^ 10))) second
    ∙ ap (λ z. away z (pos (10 ^ 10))) (same128 (c.args.weight.0 *ℤ c.args.x *ℤ c.args.cr.0) (weighted_fits c.args.weight.0 c.args.x c.args.cr.0 c.requires.small c.requires.below))
