use Rattle.std.proofs.Common.{◌∙◌, sym}
use Rattle.std.proofs.lemmas.Simd.{map-map}
use Rattle.measured_bucket.specs.SimmKinds.Pair.{Pair}
use Rattle.measured_bucket.specs.SimmRules.Bucket.{Weighted}
use Rattle.measured_bucket.specs.SimmRules.Risks.{Amount}
use Rattle.class_exchange.specs.Pairs.{pair_sum, pair_sums, curved_sum}
use Rattle.class_exchange.proofs.curvature.FxCurvatureMeasured.nets.Goals as goal

pub returns : goal.returns
returns c =
    let x = c.args.self.now in
    sym (map-map (λ (f : Weighted Pair). f.of) (curved_sum x.params.now) (pair_sums x.pairs.now) ∙ map-map (λ (a : Amount Pair). a.of) pair_sum x.pairs.now)
