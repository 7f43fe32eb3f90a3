use Rattle.std.proofs.Common.{◌≡◌, ◌*ℤ◌, ◌^◌, ◌∙◌, map, pos, ap, refl}
use Rattle.std.proofs.lemmas.Result.{IfOk-weaker}
use Rattle.measured_bucket.specs.MhUnits.Rounding.{away}
use Rattle.measured_bucket.specs.SimmRules.BaseCorrelation.{weighted_index}
use Rattle.measured_bucket.specs.Explained.{without_group}
use Rattle.measured_bucket.proofs.Explaining.{made_by, listed_by}
use Rattle.class_credit.specs.Base.{index_view, indices_view}
use Rattle.class_credit.specs.Unweighed.{unweighed_index}
use Rattle.class_credit.proofs.base.BaseCorrelationMeasured.weighings.Goals as goal

pub returns-clause-made : goal.returns-clause-made
returns-clause-made c =
    let x = c.args.self.now in
    made_by (λ weight amount cr. away (weight *ℤ amount) (pos (10 ^ 4))) (unweighed_index x.params.now) (weighted_index x.params.now) (λ a. refl) (indices_view x.indices.now)

pub returns-clause-listed : goal.returns-clause-listed
returns-clause-listed c =
    let p = c.args.self.now.params.now in
    let indices = c.args.self.now.indices.now in
    IfOk-weaker c.index_weighings.result
    (λ weighings. weighings.items ≡ map (λ index. without_group c.base_weight.result.0 index.net) indices)
    (λ weighings. weighings.items ≡ map (λ f. f.from) (map (unweighed_index p) (indices_view indices)))
    (λ weighings e. listed_by (unweighed_index p) index_view indices weighings.items (e ∙ ap (λ w. map (λ index. without_group w index.net) indices) c.base_weight.ensures.value))
    c.index_weighings.ensures
