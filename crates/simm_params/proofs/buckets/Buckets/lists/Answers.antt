use Rattle.std.proofs.Common.{◌∙◌, ap, is_some}
use Rattle.simm_params.specs.Buckets.{ids_of}
use Rattle.simm_params.specs.BucketView.{buckets_view}
use Rattle.simm_params.proofs.BucketLists.{is_some-place}
use Rattle.simm_params.proofs.RuleLists.{lists-is}
use Rattle.simm_params.proofs.buckets.Buckets.lists.Goals as goal

pub returns : goal.returns
returns c =
    let ids = ids_of (buckets_view c.self.inside.buckets.items) in
    rw (← c.self.view_is) (rw c.bucket_slot.ensures.value at c.is_some.ensures ∙ ap is_some (c.self.invariant.indexed c.args.id c.bucket_slot.ensures.bucket) ∙ is_some-place ids c.args.id ∙ lists-is ids c.args.id)
