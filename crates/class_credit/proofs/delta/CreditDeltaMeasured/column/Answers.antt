use Rattle.std.proofs.Common.{◌≡◌, IfOk, map, subst, sym, FitsSigned, rules}
use Rattle.std.specs.Int.{w64}
use Rattle.measured_bucket.proofs.MhUnits.Integers.{same64}
use Rattle.measured_bucket.specs.SimmParams.ListedBuckets.{credit_bucket_view}
use Rattle.measured_bucket.specs.SimmRules.Credit.{credit_rho, same_point, weighted_point}
use Rattle.measured_bucket.specs.Measured.{AreCorrelated}
use Rattle.measured_bucket.specs.Values.{weighed_as}
use Rattle.class_credit.specs.Groups.{issuer_rho, AreWeighable}
use Rattle.class_credit.specs.Points.{points_view}
use Rattle.class_credit.proofs.Columns.{delta_weighable}
use Rattle.class_credit.proofs.delta.CreditDeltaMeasured.column.Goals as goal

pub concentrated-requires-clause-weighable : goal.concentrated-requires-clause-weighable
concentrated-requires-clause-weighable c =
    let x = c.args.self.now in
    let threshold = x.listed.bucket.terms.thresholds.delta in
    let fits : FitsSigned w64 threshold = search rules in
    subst (λ z. AreWeighable x.listed.bucket.terms.weight.0 z (points_view x.points.now)) (sym (same64 threshold fits)) (delta_weighable (points_view x.points.now) x.listed.bucket.terms.weight.0 threshold x.listed.terms c.requires.range)

pub returns-clause-made : goal.returns-clause-made
returns-clause-made c =
    let x = c.args.self.now in
    let points = points_view x.points.now in
    let threshold = x.listed.bucket.terms.thresholds.delta in
    let fits : FitsSigned w64 threshold = search rules in
    subst (λ z. IfOk c.concentrated.result (λ column. column.factors.items ≡ map weighed_as (map (weighted_point x.listed.bucket.terms.weight.0 z points) points))) (same64 threshold fits) c.concentrated.ensures.made

pub returns-clause-correlated : goal.returns-clause-correlated
returns-clause-correlated c =
    let x = c.args.self.now in
    let points = points_view x.points.now in
    let threshold = x.listed.bucket.terms.thresholds.delta in
    let fits : FitsSigned w64 threshold = search rules in
    let rho = credit_rho (credit_bucket_view x.listed.bucket) in
    subst (λ z. IfOk c.concentrated.result (λ column. AreCorrelated same_point rho (map (weighted_point x.listed.bucket.terms.weight.0 z points) points) (issuer_rho column.rho.same.0 column.rho.rho.0 column.rho.grouped.items)))
    (same64 threshold fits) c.concentrated.ensures.correlated
