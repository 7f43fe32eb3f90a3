use Rattle.std.proofs.Common.{◌≡◌, length, arith}
use Rattle.std.proofs.lemmas.List.{length-map, map-append}
use Rattle.simm_params.specs.BucketView.{bucket_view, buckets_view}
use Rattle.simm_params.proofs.BucketLists.{AreIndexed-push}
use Rattle.simm_params.proofs.buckets.Buckets.push.Goals as goal

pub invariant_of-self-2 : goal.invariant_of-self-2
invariant_of-self-2 c =
    let held = buckets_view c.self.inside.buckets.items in
    let place : c.len-place.result ≡ length held = simp length-map (omega (arith, c.len-place.ensures, c.self.inside.buckets.ok.0)) in
    rw (c.set_place.ensures, c.in_ok-push.ensures.items, map-append, place, c.bucket_slot-slot.ensures.value)
    (AreIndexed-push held (bucket_view c.args.bucket) c.self.inside.index (omega (arith, c.bucket_slot-slot.ensures.bound, c.bucket_slot-slot.ensures.value, c.self.ranges)) c.bucket_slot-slot.ensures.bucket (rw (← c.self.view_is) at c.requires.behind) c.self.invariant)
