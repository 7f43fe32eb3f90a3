use Rattle.std.proofs.Common.{◌∙◌, sym, subst, pos, ◌≤ℤ◌, ◌*◌, unsigned_abs, FitsSigned, rules}
use Rattle.std.specs.Int.{w128, w64}
use Rattle.class_rates.proofs.MhUnits.Integers.{same128, same64}
use Rattle.class_margin.proofs.curvature.Lambdas.{over_ratio_is, ratio_passed, hvr_fits}
use Rattle.class_margin.proofs.curvature.whole_parts.over_ratio.Goals as goal

pub returns-clause-value : goal.returns-clause-value
returns-clause-value c =
    let margin = c.args.margin in
    let hvr = c.args.hvr.0 in
    let its = over_ratio_is margin hvr c.requires.hvr c.requires.low c.requires.high in
    let fits : FitsSigned w128 c.div_up.result = search rules in
    let rate_fits : FitsSigned w64 hvr = search rules in
    same128 c.div_up.result fits ∙ c.div_up.ensures.value ∙ ratio_passed margin hvr c.from-ratio.result its (c.from-ratio.ensures ∙ same64 hvr rate_fits) c.ranges.margin (hvr_fits hvr c.requires.hvr)

pub returns-clause-low : goal.returns-clause-low
returns-clause-low c =
    let margin = c.args.margin in
    let hvr = c.args.hvr.0 in
    let its = over_ratio_is margin hvr c.requires.hvr c.requires.low c.requires.high in
    let fits : FitsSigned w128 c.div_up.result = search rules in
    let rate_fits : FitsSigned w64 hvr = search rules in
    subst (λ z. pos 0 ≤ℤ z) (sym (same128 c.div_up.result fits ∙ c.div_up.ensures.value ∙ ratio_passed margin hvr c.from-ratio.result its (c.from-ratio.ensures ∙ same64 hvr rate_fits) c.ranges.margin (hvr_fits hvr c.requires.hvr))) its.low

pub returns-clause-size : goal.returns-clause-size
returns-clause-size c =
    let margin = c.args.margin in
    let hvr = c.args.hvr.0 in
    let its = over_ratio_is margin hvr c.requires.hvr c.requires.low c.requires.high in
    let fits : FitsSigned w128 c.div_up.result = search rules in
    let rate_fits : FitsSigned w64 hvr = search rules in
    subst (λ z. z ≤ℤ pos (25 * unsigned_abs margin)) (sym (same128 c.div_up.result fits ∙ c.div_up.ensures.value ∙ ratio_passed margin hvr c.from-ratio.result its (c.from-ratio.ensures ∙ same64 hvr rate_fits) c.ranges.margin (hvr_fits hvr c.requires.hvr))) its.size
