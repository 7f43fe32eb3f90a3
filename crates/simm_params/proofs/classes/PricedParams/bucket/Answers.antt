use Rattle.std.proofs.Common.{◌∙◌, ap, Some, None}
use Rattle.simm_params.specs.BucketView.{bucket_view}
use Rattle.simm_params.specs.Classes.{priced_bucket}
use Rattle.simm_params.proofs.ClassLists.{bucket_seen}
use Rattle.simm_params.proofs.classes.PricedParams.bucket.Goals as goal

pub returns-in_err-bucket : goal.returns-in_err-bucket
returns-in_err-bucket c =
    rw c.from_residual.ensures (bucket_seen priced_bucket (λ b. b.terms.id) c.args.id c.args.self.now.buckets None (c.in_err-bucket.ensures))

pub returns : goal.returns
returns c =
    ap Some c.priced_bucket.ensures ∙ bucket_seen priced_bucket (λ b. b.terms.id) c.args.id c.args.self.now.buckets (Some (bucket_view c.in_ok-bucket.bucket.now)) c.in_ok-bucket.ensures
