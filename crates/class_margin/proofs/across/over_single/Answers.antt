use Rattle.std.proofs.Common.{◌∙◌, ◌^◌, ◌*◌, sym, subst, pos, ◌≤ℤ◌, FitsSigned, rules}
use Rattle.std.specs.Int.{w128}
use Rattle.class_rates.proofs.MhUnits.Integers.{same128}
use Rattle.class_margin.proofs.across.over_single.Goals as goal

pub returns-clause-value : goal.returns-clause-value
returns-clause-value c =
    let fits : FitsSigned w128 c.single_margin.result = search rules in
    same128 c.single_margin.result fits ∙ c.single_margin.ensures

pub returns-clause-low : goal.returns-clause-low
returns-clause-low c =
    let fits : FitsSigned w128 c.single_margin.result = search rules in
    subst (λ z. pos 0 ≤ℤ z) (sym (same128 c.single_margin.result fits ∙ c.single_margin.ensures)) c.requires.low

pub returns-clause-size : goal.returns-clause-size
returns-clause-size c =
    let fits : FitsSigned w128 c.single_margin.result = search rules in
    subst (λ z. z ≤ℤ pos (84 * 10 ^ 14)) (sym (same128 c.single_margin.result fits ∙ c.single_margin.ensures)) c.requires.high
