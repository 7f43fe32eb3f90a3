use Rattle.std.proofs.Common.{◌∙◌, sym, subst, ap, pos, ◌≤ℤ◌, ◌^◌, FitsSigned, rules}
use Rattle.std.specs.Int.{w128, w64, int_min}
use Rattle.class_rates.proofs.MhUnits.Integers.{same128, same64}
use Rattle.class_margin.proofs.curvature.Lambdas.{whole_is, base_fits, short_fits, first_passed, whole_passed, lambda_passed}
use Rattle.class_margin.proofs.curvature.part.lambda.Goals as goal

pub overflow_mul-whole : goal.overflow_mul-whole
overflow_mul-whole c =
    let base = c.args.base.0 in
    let sum = c.args.sum in
    let gross = c.args.gross in
    let r = c.requires in
    let its = whole_is base sum gross r.base r.some r.in_range r.summed in
    let rate_fits : FitsSigned w64 base = search rules in
    subst (FitsSigned w128)
    (sym (first_passed base sum gross c.from.result c.min-shortfall.result its (c.from.ensures ∙ same64 base rate_fits) (c.min-shortfall.ensures.value ∙ ap (λ z. int_min z (pos 0)) (same128 sum c.ranges.sum)) (base_fits base r.base) c.ranges.gross (short_fits sum gross r.some r.in_range r.summed)))
    its.first_fits

pub overflow_sub-whole : goal.overflow_sub-whole
overflow_sub-whole c =
    let base = c.args.base.0 in
    let sum = c.args.sum in
    let gross = c.args.gross in
    let r = c.requires in
    let its = whole_is base sum gross r.base r.some r.in_range r.summed in
    let rate_fits : FitsSigned w64 base = search rules in
    subst (FitsSigned w128)
    (sym (whole_passed base sum gross c.from.result c.min-shortfall.result its (c.from.ensures ∙ same64 base rate_fits) (c.min-shortfall.ensures.value ∙ ap (λ z. int_min z (pos 0)) (same128 sum c.ranges.sum)) (base_fits base r.base) c.ranges.gross (short_fits sum gross r.some r.in_range r.summed)))
    its.whole_fits

pub returns-clause-value : goal.returns-clause-value
returns-clause-value c =
    let base = c.args.base.0 in
    let sum = c.args.sum in
    let gross = c.args.gross in
    let r = c.requires in
    let its = whole_is base sum gross r.base r.some r.in_range r.summed in
    let rate_fits : FitsSigned w64 base = search rules in
    let fits : FitsSigned w128 c.div_up.result = search rules in
    same128 c.div_up.result fits ∙ c.div_up.ensures.value
    ∙ lambda_passed base sum gross c.from.result c.min-shortfall.result its (c.from.ensures ∙ same64 base rate_fits) (c.min-shortfall.ensures.value ∙ ap (λ z. int_min z (pos 0)) (same128 sum c.ranges.sum)) (base_fits base r.base) c.ranges.gross (short_fits sum gross r.some r.in_range r.summed)

pub returns-clause-low : goal.returns-clause-low
returns-clause-low c =
    let base = c.args.base.0 in
    let sum = c.args.sum in
    let gross = c.args.gross in
    let r = c.requires in
    let its = whole_is base sum gross r.base r.some r.in_range r.summed in
    let rate_fits : FitsSigned w64 base = search rules in
    let fits : FitsSigned w128 c.div_up.result = search rules in
    subst (λ z. pos 0 ≤ℤ z)
    (sym (same128 c.div_up.result fits ∙ c.div_up.ensures.value
    ∙ lambda_passed base sum gross c.from.result c.min-shortfall.result its (c.from.ensures ∙ same64 base rate_fits) (c.min-shortfall.ensures.value ∙ ap (λ z. int_min z (pos 0)) (same128 sum c.ranges.sum)) (base_fits base r.base) c.ranges.gross (short_fits sum gross r.some r.in_range r.summed)))
    its.low

pub returns-clause-high : goal.returns-clause-high
returns-clause-high c =
    let base = c.args.base.0 in
    let sum = c.args.sum in
    let gross = c.args.gross in
    let r = c.requires in
    let its = whole_is base sum gross r.base r.some r.in_range r.summed in
    let rate_fits : FitsSigned w64 base = search rules in
    let fits : FitsSigned w128 c.div_up.result = search rules in
    subst (λ z. z ≤ℤ pos (10 ^ 7))
    (sym (same128 c.div_up.result fits ∙ c.div_up.ensures.value
    ∙ lambda_passed base sum gross c.from.result c.min-shortfall.result its (c.from.ensures ∙ same64 base rate_fits) (c.min-shortfall.ensures.value ∙ ap (λ z. int_min z (pos 0)) (same128 sum c.ranges.sum)) (base_fits base r.base) c.ranges.gross (short_fits sum gross r.some r.in_range r.summed)))
    its.high
