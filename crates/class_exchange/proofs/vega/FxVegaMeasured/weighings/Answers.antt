use Rattle.std.proofs.Common.{◌≡◌, map, refl}
use Rattle.std.proofs.lemmas.Result.{IfOk-weaker}
use Rattle.measured_bucket.specs.SimmRules.Bucket.{weighted_value}
use Rattle.measured_bucket.proofs.Explaining.{made_by, listed_by}
use Rattle.class_exchange.specs.Pairs.{pair_sum, pair_sums, vega_pair}
use Rattle.class_exchange.specs.Unweighed.{unweighed_pair}
use Rattle.class_exchange.proofs.PairColumns.{can_weigh}
use Rattle.class_exchange.proofs.vega.FxVegaMeasured.weighings.Goals as goal

pub pair_weighings-requires : goal.pair_weighings-requires
pair_weighings-requires c = let x = c.args.self.now in can_weigh x.params.now c.facts.ensures.params x.pairs.now c.pair_facts.ensures c.requires

pub returns-clause-made : goal.returns-clause-made
returns-clause-made c =
    let x = c.args.self.now in
    made_by weighted_value (unweighed_pair x.params.now) (vega_pair x.params.now) (λ a. refl) (pair_sums x.pairs.now)

pub returns-clause-listed : goal.returns-clause-listed
returns-clause-listed c =
    let x = c.args.self.now in
    IfOk-weaker c.pair_weighings.result
    (λ weighings. weighings.items ≡ map (λ pair. (unweighed_pair x.params.now (pair_sum pair)).from) x.pairs.now)
    (λ weighings. weighings.items ≡ map (λ f. f.from) (map (unweighed_pair x.params.now) (pair_sums x.pairs.now)))
    (λ weighings. listed_by (unweighed_pair x.params.now) pair_sum x.pairs.now weighings.items) c.pair_weighings.ensures
