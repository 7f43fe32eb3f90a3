use Rattle.std.proofs.Common.{◌≡◌, map, refl}
use Rattle.std.proofs.lemmas.Result.{IfOk-weaker}
use Rattle.measured_bucket.specs.Risk.{risk_of}
use Rattle.measured_bucket.proofs.Explaining.{made_by, listed_by}
use Rattle.class_exchange.specs.Pairs.{pair_sum, pair_sums, curved_sum}
use Rattle.class_exchange.specs.Unweighed.{uncurved_pair}
use Rattle.class_exchange.proofs.curvature.FxCurvatureMeasured.weighings.Goals as goal

pub returns-clause-made : goal.returns-clause-made
returns-clause-made c =
    let x = c.args.self.now in
    made_by (λ weight amount cr. risk_of weight amount) (uncurved_pair x.params.now) (curved_sum x.params.now) (λ a. refl) (pair_sums x.pairs.now)

pub returns-clause-listed : goal.returns-clause-listed
returns-clause-listed c =
    let x = c.args.self.now in
    IfOk-weaker c.pair_weighings.result
    (λ weighings. weighings.items ≡ map (λ pair. (uncurved_pair x.params.now (pair_sum pair)).from) x.pairs.now)
    (λ weighings. weighings.items ≡ map (λ f. f.from) (map (uncurved_pair x.params.now) (pair_sums x.pairs.now)))
    (λ weighings. listed_by (uncurved_pair x.params.now) pair_sum x.pairs.now weighings.items) c.pair_weighings.ensures
