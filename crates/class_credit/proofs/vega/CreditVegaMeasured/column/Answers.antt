use Rattle.std.proofs.Common.{◌≡◌, ◌^◌, IfOk, map, sum_by, unsigned_abs, subst, sym, FitsSigned, rules}
use Rattle.std.specs.Int.{w64}
use Rattle.measured_bucket.proofs.MhUnits.Integers.{same64}
use Rattle.measured_bucket.specs.SimmParams.ListedBuckets.{credit_bucket_view}
use Rattle.measured_bucket.specs.SimmRules.Credit.{credit_rho, same_point, weighted_point}
use Rattle.measured_bucket.specs.Measured.{AreCorrelated, IsNear}
use Rattle.measured_bucket.specs.Values.{alone, weighed_as}
use Rattle.class_credit.specs.Groups.{issuer_rho, AreWeighable}
use Rattle.class_credit.specs.Points.{points_view}
use Rattle.std.proofs.lemmas.Result.{IfOk-weaker}
use Rattle.measured_bucket.specs.SimmRules.Risks.{CreditPoint}
use Rattle.class_credit.proofs.Columns.{vega_weighable, vega_near}
use Rattle.class_credit.proofs.vega.CreditVegaMeasured.column.Goals as goal

pub concentrated-requires-clause-weighable : goal.concentrated-requires-clause-weighable
concentrated-requires-clause-weighable c =
    let x = c.args.self.now in
    let threshold = x.listed.bucket.terms.thresholds.vega in
    let fits : FitsSigned w64 threshold = search rules in
    subst (λ z. AreWeighable x.listed.bucket.terms.vrw.0 z (points_view x.points.now)) (sym (same64 threshold fits)) (vega_weighable (points_view x.points.now) x.listed.bucket.terms.vrw.0 threshold x.listed.weighed.terms.vrw x.listed.weighed.terms.vega c.requires.range)

pub returns-clause-made : goal.returns-clause-made
returns-clause-made c =
    let x = c.args.self.now in
    let points = points_view x.points.now in
    let threshold = x.listed.bucket.terms.thresholds.vega in
    let fits : FitsSigned w64 threshold = search rules in
    subst (λ z. IfOk c.concentrated.result (λ column. column.factors.items ≡ map weighed_as (map (weighted_point x.listed.bucket.terms.vrw.0 z points) points))) (same64 threshold fits) c.concentrated.ensures.made

pub returns-clause-correlated : goal.returns-clause-correlated
returns-clause-correlated c =
    let x = c.args.self.now in
    let points = points_view x.points.now in
    let threshold = x.listed.bucket.terms.thresholds.vega in
    let fits : FitsSigned w64 threshold = search rules in
    let rho = credit_rho (credit_bucket_view x.listed.bucket) in
    subst (λ z. IfOk c.concentrated.result (λ column. AreCorrelated same_point rho (map (weighted_point x.listed.bucket.terms.vrw.0 z points) points) (issuer_rho column.rho.same.0 column.rho.rho.0 column.rho.grouped.items)))
    (same64 threshold fits) c.concentrated.ensures.correlated

pub returns-clause-near : goal.returns-clause-near
returns-clause-near c =
    let x = c.args.self.now in
    let points = points_view x.points.now in
    let threshold = x.listed.bucket.terms.thresholds.vega in
    IfOk-weaker c.concentrated.result
    (λ column. IsNear (10 ^ 10) 346999999 1 (λ (p : CreditPoint). x.listed.bucket.terms.vrw.0) points (sum_by (λ factor. unsigned_abs factor.w) column.factors.items))
    (λ column. IsNear (10 ^ 10) 693999998 1 alone points (sum_by (λ factor. unsigned_abs factor.w) column.factors.items))
    (λ column. vega_near points x.listed.bucket.terms.vrw.0 threshold x.listed.weighed.terms.vrw x.listed.weighed.terms.vega c.requires.range (sum_by (λ factor. unsigned_abs factor.w) column.factors.items)) c.concentrated.ensures.near
