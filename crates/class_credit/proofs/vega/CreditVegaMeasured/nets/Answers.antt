use Rattle.std.proofs.Common.{◌∙◌, sym}
use Rattle.std.proofs.lemmas.Simd.{map-map}
use Rattle.measured_bucket.specs.SimmRules.Bucket.{Weighted}
use Rattle.measured_bucket.specs.SimmRules.Risks.{CreditPoint, Amount}
use Rattle.measured_bucket.specs.SimmRules.Credit.{weighted_point}
use Rattle.class_credit.specs.Points.{point_view, points_view}
use Rattle.class_credit.proofs.vega.CreditVegaMeasured.nets.Goals as goal

pub returns : goal.returns
returns c =
    let x = c.args.self.now in
    let points = points_view x.points.now in
    sym (map-map (λ (f : Weighted CreditPoint). f.of) (weighted_point x.listed.bucket.terms.vrw.0 x.listed.bucket.terms.thresholds.vega points) points ∙ map-map (λ (a : Amount CreditPoint). a.of) point_view x.points.now)
