use Rattle.simm_rules.specs.SimmKinds.Order.{same_bucket}
use Rattle.simm_params.specs.ClassView.{credit_view}
use Rattle.simm_params.specs.ListedBuckets.{credit_bucket_view}
use Rattle.simm_params.specs.Weighed.{IsWeighedCredit}
use Rattle.simm_params.proofs.Found.{find_holds, if_some-map}
use Rattle.simm_params.proofs.params.Params.credit_bucket.Goals as goal

pub returns-clause-weighed : goal.returns-clause-weighed
returns-clause-weighed c =
    if_some-map IsWeighedCredit credit_bucket_view c.bucket.result
    (rw c.bucket.ensures (find_holds IsWeighedCredit (λ b. same_bucket c.args.id b.terms.id) (credit_view c.credit.result.now).buckets c.credit.ensures.weighed.buckets))
