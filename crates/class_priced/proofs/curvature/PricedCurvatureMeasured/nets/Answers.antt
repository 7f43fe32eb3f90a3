use Rattle.std.proofs.Common.{◌∙◌, sym, ℕ, List}
use Rattle.std.proofs.lemmas.Simd.{map-map}
use Rattle.measured_bucket.specs.SimmRules.Bucket.{Weighted}
use Rattle.measured_bucket.specs.SimmRules.Risks.{Amount}
use Rattle.measured_bucket.specs.SimmParams.ListedBuckets.{priced_bucket_view}
use Rattle.class_priced.specs.Sums.{name_sum, name_sums}
use Rattle.class_priced.specs.Weights.{curved_name}
use Rattle.class_priced.proofs.curvature.PricedCurvatureMeasured.nets.Goals as goal

pub returns : goal.returns
returns c =
    let x = c.args.self.now in
    sym (map-map (λ (f : Weighted (List ℕ)). f.of) (curved_name (priced_bucket_view x.listed.bucket)) (name_sums x.names.now) ∙ map-map (λ (a : Amount (List ℕ)). a.of) name_sum x.names.now)
