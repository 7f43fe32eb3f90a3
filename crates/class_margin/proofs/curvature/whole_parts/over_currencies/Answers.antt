use Rattle.std.proofs.Common.{◌≡◌, ◌∙◌, ◌+◌, ◌*◌, ◌^◌, sym, ap, subst, pos, ◌≤ℤ◌, unsigned_abs, FitsSigned, rules, arith}
use Rattle.std.specs.Int.{w128}
use Rattle.std.proofs.lemmas.Int.{ints}
use Rattle.class_rates.proofs.MhUnits.Integers.{same128}
use Rattle.class_margin.specs.curvature.Combine.{over_currencies, over_ratio, gross_size, margins_size}
use Rattle.class_margin.proofs.curvature.Lambdas.{passed}
use Rattle.class_margin.proofs.curvature.whole_parts.over_currencies.Goals as goal

pub over_ratio-requires-clause-low : goal.over_ratio-requires-clause-low
over_ratio-requires-clause-low c =
    let ps = c.args.parts.now in
    let sized = c.requires.sized in
    let p = c.args.params.now in
    let margin = c.in_ok-margin.margin in
    let fits : FitsSigned w128 margin = search rules in
    let margin_is : passed margin ≡ margin = same128 margin fits in
    subst (λ z. pos 0 ≤ℤ z) (sym margin_is) c.in_ok-margin.ensures.low

pub over_ratio-requires-clause-high : goal.over_ratio-requires-clause-high
over_ratio-requires-clause-high c =
    let ps = c.args.parts.now in
    let sized = c.requires.sized in
    let p = c.args.params.now in
    let margin = c.in_ok-margin.margin in
    let fits : FitsSigned w128 margin = search rules in
    let margin_is : passed margin ≡ margin = same128 margin fits in
    subst (λ z. z ≤ℤ pos (10 ^ 18)) (sym margin_is) (omega (arith, ints, c.in_ok-margin.ensures.size, sized.gross, sized.margins))

pub returns-clause-value : goal.returns-clause-value
returns-clause-value c =
    let ps = c.args.parts.now in
    let sized = c.requires.sized in
    let p = c.args.params.now in
    let margin = c.in_ok-margin.margin in
    let fits : FitsSigned w128 margin = search rules in
    let margin_is : passed margin ≡ margin = same128 margin fits in
    let ratio = c.over_ratio.result in
    let ratio_fits : FitsSigned w128 ratio = search rules in
    same128 ratio ratio_fits ∙ c.over_ratio.ensures.value ∙ ap (λ z. over_ratio z c.rate_hvr.result.0) (margin_is ∙ c.in_ok-margin.ensures.value)
    ∙ ap (over_ratio (over_currencies p ps)) c.rate_hvr.ensures.value

pub returns-clause-low : goal.returns-clause-low
returns-clause-low c =
    let ps = c.args.parts.now in
    let sized = c.requires.sized in
    let p = c.args.params.now in
    let margin = c.in_ok-margin.margin in
    let fits : FitsSigned w128 margin = search rules in
    let margin_is : passed margin ≡ margin = same128 margin fits in
    let ratio = c.over_ratio.result in
    let ratio_fits : FitsSigned w128 ratio = search rules in
    subst (λ z. pos 0 ≤ℤ z) (sym (same128 ratio ratio_fits)) c.over_ratio.ensures.low

pub returns-clause-size : goal.returns-clause-size
returns-clause-size c =
    let ps = c.args.parts.now in
    let sized = c.requires.sized in
    let p = c.args.params.now in
    let margin = c.in_ok-margin.margin in
    let fits : FitsSigned w128 margin = search rules in
    let margin_is : passed margin ≡ margin = same128 margin fits in
    let ratio = c.over_ratio.result in
    let ratio_fits : FitsSigned w128 ratio = search rules in
    let bound : ratio ≤ℤ pos (25 * unsigned_abs margin) = subst (λ z. ratio ≤ℤ pos (25 * unsigned_abs z)) margin_is c.over_ratio.ensures.size in
    subst (λ z. z ≤ℤ pos (25 * (gross_size ps + 10 * margins_size ps))) (sym (same128 ratio ratio_fits)) (omega (arith, ints, bound, c.in_ok-margin.ensures.low, c.in_ok-margin.ensures.size))
