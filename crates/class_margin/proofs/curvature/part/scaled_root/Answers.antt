use Rattle.std.proofs.Common.{◌∙◌, sym, subst, pos, ◌≤ℤ◌, ◌*◌, unsigned_abs, FitsSigned, rules}
use Rattle.std.specs.Int.{w128}
use Rattle.class_rates.proofs.MhUnits.Integers.{same128}
use Rattle.class_margin.proofs.curvature.Lambdas.{scaled_is, root_passed}
use Rattle.class_margin.proofs.curvature.part.scaled_root.Goals as goal

pub returns-clause-high : goal.returns-clause-high
returns-clause-high c =
    let lambda = c.args.lambda in
    let root = c.args.root in
    let r = c.requires in
    let its = scaled_is lambda root r.lambda_low r.lambda_high r.root_low r.root_high in
    let fits : FitsSigned w128 c.div_up.result = search rules in
    subst (λ z. z ≤ℤ pos (10 * unsigned_abs root)) (sym (same128 c.div_up.result fits ∙ c.div_up.ensures.value ∙ root_passed lambda root its c.ranges.lambda c.ranges.root)) its.high
