use Rattle.std.proofs.Common.{◌≡◌, ◌∙◌, map, ap, refl}
use Rattle.std.proofs.lemmas.Result.{IfOk-weaker}
use Rattle.measured_bucket.specs.SimmParams.ListedBuckets.{priced_bucket_view}
use Rattle.measured_bucket.specs.Risk.{risk_of}
use Rattle.measured_bucket.specs.Explained.{without_group}
use Rattle.measured_bucket.proofs.Explaining.{made_by, listed_by}
use Rattle.class_priced.specs.Sums.{name_sum, name_sums}
use Rattle.class_priced.specs.Weights.{curved_name}
use Rattle.class_priced.specs.Unweighed.{uncurved_name}
use Rattle.class_priced.proofs.curvature.PricedCurvatureMeasured.weighings.Goals as goal

pub returns-clause-made : goal.returns-clause-made
returns-clause-made c =
    let x = c.args.self.now in
    let b = priced_bucket_view x.listed.bucket in
    made_by (λ weight amount cr. risk_of weight amount) (uncurved_name b) (curved_name b) (λ a. refl) (name_sums x.names.now)

pub returns-clause-listed : goal.returns-clause-listed
returns-clause-listed c =
    let x = c.args.self.now in
    let b = priced_bucket_view x.listed.bucket in
    let sigma = c.volatility_in.result.0 in
    IfOk-weaker c.name_weighings.result
    (λ weighings. weighings.items ≡ map (λ name. without_group sigma name.sum) x.names.now)
    (λ weighings. weighings.items ≡ map (λ f. f.from) (map (uncurved_name b) (name_sums x.names.now)))
    (λ weighings e. listed_by (uncurved_name b) name_sum x.names.now weighings.items (e ∙ ap (λ s. map (λ name. without_group s name.sum) x.names.now) c.volatility_in.ensures.value))
    c.name_weighings.ensures
