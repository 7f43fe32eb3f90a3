use Rattle.std.proofs.Common.{◌≡◌, map}
use Rattle.std.proofs.lemmas.Result.{IfOk-weaker}
use Rattle.class_credit.specs.Points.{point_view, points_view}
use Rattle.class_credit.specs.Unweighed.{uncurved_point, weighing_at}
use Rattle.class_credit.proofs.Curving.{nets_small, curved_made, curved_listed}
use Rattle.class_credit.proofs.curvature.CreditCurvatureMeasured.weighings.Goals as goal

pub curvature_weighings-requires : goal.curvature_weighings-requires
curvature_weighings-requires c = nets_small c.args.self.now.points.now c.requires.range

pub returns-clause-made : goal.returns-clause-made
returns-clause-made c =
    let x = c.args.self.now in
    curved_made x.listed.bucket.terms.curvature (points_view x.points.now)

pub returns-clause-listed : goal.returns-clause-listed
returns-clause-listed c =
    let x = c.args.self.now in
    let curvature = x.listed.bucket.terms.curvature in
    let sigma = c.volatility_in-sigma.result.0 in
    IfOk-weaker c.curvature_weighings.result
    (λ weighings. weighings.items ≡ map (λ point. weighing_at sigma (point_view point)) x.points.now)
    (λ weighings. weighings.items ≡ map (λ f. f.from) (map (uncurved_point curvature) (points_view x.points.now)))
    (λ weighings e. curved_listed curvature sigma x.points.now weighings.items e c.volatility_in-sigma.ensures.value) c.curvature_weighings.ensures
