use Rattle.std.proofs.Common.{◌∙◌, ◌*◌, ◌^◌, ◌≤◌, ap, sym, subst, pos, unsigned_abs, FitsSigned, rules}
use Rattle.std.specs.Int.{w128}
use Rattle.measured_bucket.proofs.MhUnits.Integers.{same128}
use Rattle.measured_bucket.specs.Risk.{curved_by}
use Rattle.class_rates.proofs.curvature.curve_volatility.Goals as goal

pub curve-requires-clause-small : goal.curve-requires-clause-small
curve-requires-clause-small c =
    let fits : FitsSigned w128 c.scaled_net.result = search rules in
    subst (λ z. unsigned_abs z ≤ 219 * 10 ^ 22) (sym (same128 c.scaled_net.result fits)) c.scaled_net.ensures.size

pub returns : goal.returns
returns c =
    let fits : FitsSigned w128 c.scaled_net.result = search rules in
    c.curve.ensures ∙ ap (curved_by (pos 10000)) (same128 c.scaled_net.result fits ∙ c.scaled_net.ensures.value)
