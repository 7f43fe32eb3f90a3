use Rattle.std.proofs.Common.{◌∙◌, ◌*◌, ◌^◌, ◌≤◌, ap, sym, subst, ◌*ℤ◌, unsigned_abs, FitsSigned, rules, arith}
use Rattle.std.specs.Int.{w128}
use Rattle.measured_bucket.proofs.MhUnits.Integers.{same128}
use Rattle.measured_bucket.specs.SimmRules.Curvature.{scale_of}
use Rattle.class_credit.proofs.Curving.{scaled_size}
use Rattle.class_credit.proofs.curvature.scaled_net.Goals as goal

pub returns-clause-value : goal.returns-clause-value
returns-clause-value c =
    let net = c.args.point.now.net in
    let fits : FitsSigned w128 net = search rules in
    let sum_fits : FitsSigned w128 c.scaled.result = search rules in
    same128 c.scaled.result sum_fits ∙ c.scaled.ensures ∙ ap (λ z. scale_of c.tenor-tenor.result *ℤ z) (same128 net fits) ∙ ap (λ t. scale_of t *ℤ net) c.tenor-tenor.ensures

pub returns-clause-size : goal.returns-clause-size
returns-clause-size c =
    let net = c.args.point.now.net in
    let fits : FitsSigned w128 net = search rules in
    let sum_fits : FitsSigned w128 c.scaled.result = search rules in
    subst (λ z. unsigned_abs z ≤ 219 * 10 ^ 22) (sym (same128 c.scaled.result sum_fits ∙ c.scaled.ensures ∙ ap (λ z. scale_of c.tenor-tenor.result *ℤ z) (same128 net fits))) (omega (arith, c.requires, scaled_size c.tenor-tenor.result net))
