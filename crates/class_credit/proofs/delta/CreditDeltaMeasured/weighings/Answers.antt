use Rattle.std.proofs.Common.{◌≡◌, IfOk, map, refl, subst, sym, FitsSigned, rules}
use Rattle.std.specs.Int.{w64}
use Rattle.measured_bucket.proofs.MhUnits.Integers.{same64}
use Rattle.measured_bucket.specs.SimmRules.Bucket.{weighted_value}
use Rattle.measured_bucket.specs.SimmRules.Credit.{weighted_point}
use Rattle.measured_bucket.proofs.Explaining.{made_by}
use Rattle.class_credit.specs.Groups.{AreWeighable}
use Rattle.class_credit.specs.Points.{points_view}
use Rattle.class_credit.specs.Unweighed.{unweighed_point}
use Rattle.class_credit.proofs.Columns.{delta_weighable}
use Rattle.class_credit.proofs.delta.CreditDeltaMeasured.weighings.Goals as goal

pub point_weighings-requires-clause-weighable : goal.point_weighings-requires-clause-weighable
point_weighings-requires-clause-weighable c =
    let x = c.args.self.now in
    let threshold = x.listed.bucket.terms.thresholds.delta in
    let fits : FitsSigned w64 threshold = search rules in
    subst (λ z. AreWeighable x.listed.bucket.terms.weight.0 z (points_view x.points.now)) (sym (same64 threshold fits)) (delta_weighable (points_view x.points.now) x.listed.bucket.terms.weight.0 threshold x.listed.terms c.requires.range)

pub returns-clause-made : goal.returns-clause-made
returns-clause-made c =
    let x = c.args.self.now in
    let points = points_view x.points.now in
    let threshold = x.listed.bucket.terms.thresholds.delta in
    made_by weighted_value (unweighed_point x.listed.bucket.terms.weight.0 threshold points) (weighted_point x.listed.bucket.terms.weight.0 threshold points) (λ a. refl) points

pub returns-clause-listed : goal.returns-clause-listed
returns-clause-listed c =
    let x = c.args.self.now in
    let points = points_view x.points.now in
    let threshold = x.listed.bucket.terms.thresholds.delta in
    let fits : FitsSigned w64 threshold = search rules in
    subst (λ z. IfOk c.point_weighings.result (λ weighings. weighings.items ≡ map (λ f. f.from) (map (unweighed_point x.listed.bucket.terms.weight.0 z points) points))) (same64 threshold fits) c.point_weighings.ensures
