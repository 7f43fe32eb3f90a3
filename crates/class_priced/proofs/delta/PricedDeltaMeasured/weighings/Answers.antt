use Rattle.std.proofs.Common.{◌≡◌, ◌∙◌, map, ap, refl, FitsSigned, rules}
use Rattle.std.specs.Int.{w64, cast_signed, cast_unsigned}
use Rattle.std.proofs.lemmas.Result.{IfOk-weaker}
use Rattle.measured_bucket.proofs.MhUnits.Integers.{same64}
use Rattle.measured_bucket.specs.SimmRules.Bucket.{weighted_value}
use Rattle.measured_bucket.specs.SimmParams.ListedBuckets.{priced_bucket_view}
use Rattle.measured_bucket.specs.Explained.{from_itself}
use Rattle.measured_bucket.proofs.Explaining.{made_by, listed_by}
use Rattle.class_priced.specs.Names.{name_view, names_view}
use Rattle.class_priced.specs.Weights.{delta_name}
use Rattle.class_priced.specs.Unweighed.{unweighed_name}
use Rattle.class_priced.proofs.delta.PricedDeltaMeasured.weighings.Goals as goal

pub returns-clause-made : goal.returns-clause-made
returns-clause-made c =
    let x = c.args.self.now in
    let b = priced_bucket_view x.listed.bucket in
    made_by weighted_value (unweighed_name b) (delta_name b) (λ a. refl) (names_view x.names.now)

pub returns-clause-listed : goal.returns-clause-listed
returns-clause-listed c =
    let x = c.args.self.now in
    let b = priced_bucket_view x.listed.bucket in
    let weight = x.listed.bucket.terms.weight.0 in
    let threshold = x.listed.bucket.terms.thresholds.delta in
    let fits : FitsSigned w64 threshold = search rules in
    IfOk-weaker c.name_weighings.result
    (λ weighings. weighings.items ≡ map (λ name. from_itself weight (cast_signed w64 (cast_unsigned w64 threshold)) name.net) x.names.now)
    (λ weighings. weighings.items ≡ map (λ f. f.from) (map (unweighed_name b) (names_view x.names.now)))
    (λ weighings e. listed_by (unweighed_name b) name_view x.names.now weighings.items (e ∙ ap (λ t. map (λ name. from_itself weight t name.net) x.names.now) (same64 threshold fits)))
    c.name_weighings.ensures
