use Rattle.std.proofs.Common.{◌∙◌, ◌*◌, ◌^◌, ◌≤◌, ap, sym, subst, unsigned_abs, FitsSigned, rules}
use Rattle.std.specs.Int.{w64, w128, cast_signed, cast_unsigned}
use Rattle.simm_params.proofs.MhUnits.Integers.{same64, same128}
use Rattle.weighted_bucket.specs.Group.{CanConcentrate}
use Rattle.measured_bucket.specs.Alone.{weighed_alone}
use Rattle.measured_bucket.specs.Vega.{vega_risk}
use Rattle.measured_bucket.proofs.Vegas.{risk_concentrates, risk_weighs}
use Rattle.measured_bucket.proofs.vega.weigh_vega.Goals as goal

pub weigh_alone-requires-clause-concentrates : goal.weigh_alone-requires-clause-concentrates
weigh_alone-requires-clause-concentrates c =
    let t = c.args.terms.now in
    let threshold_fits : FitsSigned w64 t.threshold = search rules in
    let risk_fits : FitsSigned w128 c.vega_risk-risk.result = search rules in
    let is = same128 c.vega_risk-risk.result risk_fits ∙ c.vega_risk-risk.ensures ∙ ap (vega_risk t.hvr.0 t.sigma.0) (same128 c.args.net c.ranges.net) in
    subst (λ z. CanConcentrate z (cast_signed w64 (cast_unsigned w64 t.threshold))) (sym is)
    (subst (CanConcentrate (vega_risk t.hvr.0 t.sigma.0 c.args.net)) (sym (same64 t.threshold threshold_fits)) (risk_concentrates t.hvr.0 t.sigma.0 t.ratio c.args.net t.weight.0 t.threshold t.risk_weight t.thick c.requires.small))

pub weigh_alone-requires-clause-small : goal.weigh_alone-requires-clause-small
weigh_alone-requires-clause-small c =
    let t = c.args.terms.now in
    let risk_fits : FitsSigned w128 c.vega_risk-risk.result = search rules in
    let is = same128 c.vega_risk-risk.result risk_fits ∙ c.vega_risk-risk.ensures ∙ ap (vega_risk t.hvr.0 t.sigma.0) (same128 c.args.net c.ranges.net) in
    subst (λ z. unsigned_abs z * unsigned_abs t.weight.0 ≤ 10 ^ 28) (sym is) (risk_weighs t.hvr.0 t.sigma.0 t.ratio c.args.net t.weight.0 t.threshold t.risk_weight t.thick c.requires.small)

pub returns : goal.returns
returns c =
    let t = c.args.terms.now in
    let threshold_fits : FitsSigned w64 t.threshold = search rules in
    let risk_fits : FitsSigned w128 c.vega_risk-risk.result = search rules in
    let is = same128 c.vega_risk-risk.result risk_fits ∙ c.vega_risk-risk.ensures ∙ ap (vega_risk t.hvr.0 t.sigma.0) (same128 c.args.net c.ranges.net) in
    c.weigh_alone.ensures ∙ ap (weighed_alone t.weight.0 (cast_signed w64 (cast_unsigned w64 t.threshold))) is
    ∙ ap (λ h. weighed_alone t.weight.0 h (vega_risk t.hvr.0 t.sigma.0 c.args.net)) (same64 t.threshold threshold_fits)
