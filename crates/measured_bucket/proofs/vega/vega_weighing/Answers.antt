use Rattle.std.proofs.Common.{◌∙◌, ap, FitsSigned, rules}
use Rattle.std.specs.Int.{w64, w128, cast_signed, cast_unsigned}
use Rattle.simm_params.proofs.MhUnits.Integers.{same64, same128}
use Rattle.measured_bucket.specs.Explained.{from_itself}
use Rattle.measured_bucket.specs.Vega.{vega_risk}
use Rattle.measured_bucket.proofs.vega.vega_weighing.Goals as goal

pub returns : goal.returns
returns c =
    let t = c.args.terms.now in
    let threshold_fits : FitsSigned w64 t.threshold = search rules in
    let risk_fits : FitsSigned w128 c.vega_risk-risk.result = search rules in
    let is = same128 c.vega_risk-risk.result risk_fits ∙ c.vega_risk-risk.ensures ∙ ap (vega_risk t.hvr.0 t.sigma.0) (same128 c.args.net c.ranges.net) in
    c.of_itself.ensures ∙ ap (from_itself t.weight.0 (cast_signed w64 (cast_unsigned w64 t.threshold))) is
    ∙ ap (λ h. from_itself t.weight.0 h (vega_risk t.hvr.0 t.sigma.0 c.args.net)) (same64 t.threshold threshold_fits)
