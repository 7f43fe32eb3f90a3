use Rattle.std.proofs.Common.{◌≡◌, ◌∙◌, rules}
use Rattle.simm_params.specs.Buckets.{ids_of, place_of}
use Rattle.simm_params.specs.BucketView.{buckets_view}
use Rattle.simm_params.proofs.RuleLists.{place_of-is}
use Rattle.simm_params.proofs.buckets.Buckets.place.Goals as goal

pub returns-clause-listed : goal.returns-clause-listed
returns-clause-listed c =
    let ids = ids_of (buckets_view c.self.inside.buckets.items) in
    let placed : c.map.result ≡ place_of ids c.args.id = search rules in
    rw (← c.self.view_is) (placed ∙ place_of-is ids c.args.id c.self.invariant.ids c.bucket_slot.ensures.bucket)
