use Rattle.std.proofs.Common.{◌≡◌, ◌∙◌, ap, sym}
use Rattle.measured_bucket.specs.SimmRules.Bucket.{combined}
use Rattle.measured_bucket.specs.SimmRules.Lookups.{six}
use Rattle.measured_bucket.specs.SimmRules.Rates.{tenor_rho, sub_rho}
use Rattle.class_rates.specs.declared.rate.Rate.TheVariants as rate
use Rattle.class_rates.specs.Rho.{rho_of}
use Rattle.class_rates.proofs.Rhos.{combined_sixes}
use Rattle.class_rates.proofs.rate_rho.correlation.Goals as goal

pub returns-in-Curve-Curve : goal.returns-in-Curve-Curve
returns-in-Curve-Curve c =
    let p = c.args.params.now in
    let t = c.in-Curve-Curve.t in
    let s = c.in-Curve-Curve.s in
    let u = c.in-Curve-Curve.u in
    let v = c.in-Curve-Curve.v in
    let tenors = tenor_rho p t u in
    let subs = sub_rho p s v in
    c.combine.ensures.value
    ∙ ap (λ z. combined z c.in_millionths-in-Curve-Curve.result.0) (c.in_millionths.ensures.value ∙ ap six c.tenor_rho.ensures.value)
    ∙ ap (combined (six tenors)) (c.in_millionths-in-Curve-Curve.ensures.value ∙ ap six c.sub_rho.ensures.value)
    ∙ combined_sixes tenors subs ∙ (let e : rho_of p (rate.Curve t s) (rate.Curve u v) ≡ rho_of p c.args.a c.args.b = ap (λ x. rho_of p x (rate.Curve u v)) (sym c.in-Curve-Curve.is-0) ∙ ap (rho_of p c.args.a) (sym c.in-Curve-Curve.is-1) in e)
