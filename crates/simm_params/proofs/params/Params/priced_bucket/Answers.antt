use Rattle.simm_rules.specs.SimmKinds.Order.{same_bucket}
use Rattle.simm_params.specs.ClassView.{priced_view}
use Rattle.simm_params.specs.ListedBuckets.{priced_bucket_view}
use Rattle.simm_params.specs.Weighed.{IsWeighedPriced}
use Rattle.simm_params.proofs.Found.{find_holds, if_some-map}
use Rattle.simm_params.proofs.params.Params.priced_bucket.Goals as goal

pub returns-clause-weighed : goal.returns-clause-weighed
returns-clause-weighed c =
    if_some-map IsWeighedPriced priced_bucket_view c.bucket.result
    (rw c.bucket.ensures (find_holds IsWeighedPriced (λ b. same_bucket c.args.id b.terms.id) (priced_view c.priced.result.now).buckets c.priced.ensures.weighed.buckets))
