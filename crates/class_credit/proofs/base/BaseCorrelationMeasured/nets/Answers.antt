use Rattle.std.proofs.Common.{◌∙◌, sym, ℕ, List}
use Rattle.std.proofs.lemmas.Simd.{map-map}
use Rattle.measured_bucket.specs.SimmRules.Bucket.{Weighted}
use Rattle.measured_bucket.specs.SimmRules.Risks.{Amount}
use Rattle.measured_bucket.specs.SimmRules.BaseCorrelation.{weighted_index}
use Rattle.class_credit.specs.Base.{index_view, indices_view}
use Rattle.class_credit.proofs.base.BaseCorrelationMeasured.nets.Goals as goal

pub returns : goal.returns
returns c =
    let x = c.args.self.now in
    let points = indices_view x.indices.now in
    sym (map-map (λ (f : Weighted (List ℕ)). f.of) (weighted_index x.params.now) points ∙ map-map (λ (a : Amount (List ℕ)). a.of) index_view x.indices.now)
