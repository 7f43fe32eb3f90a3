use Rattle.std.proofs.Common.{◌∙◌, sym, arith}
use Rattle.std.proofs.lemmas.List.{length-map}
use Rattle.simm_params.specs.Buckets.{ids_of}
use Rattle.simm_params.specs.BucketView.{bucket_view, buckets_view}
use Rattle.simm_params.proofs.BucketLists.{place_of-low, found_at, nothing_found}
use Rattle.simm_params.proofs.buckets.Buckets.get.Goals as goal

pub index-requires : goal.index-requires
index-requires c =
    let at = rw (← c.self.view_is) at (sym c.place.ensures.value ∙ c.in-Some.is) in
    let low = simp length-map at (place_of-low (ids_of (buckets_view c.self.inside.buckets.items)) c.args.id c.in-Some.place at) in
    omega (arith, low, c.self.inside.buckets.ok.0)

pub returns-in-Some : goal.returns-in-Some
returns-in-Some c =
    let at = rw (← c.self.view_is) at (sym c.place.ensures.value ∙ c.in-Some.is) in
    let low = simp length-map at (place_of-low (ids_of (buckets_view c.self.inside.buckets.items)) c.args.id c.in-Some.place at) in
    rw (← c.self.view_is) (found_at bucket_view c.self.inside.buckets.items c.args.id c.self.invariant.in_order c.in-Some.place c.index.result.now low at c.index.ensures)

pub returns-in-None : goal.returns-in-None
returns-in-None c =
    let at = rw (← c.self.view_is) at (sym c.place.ensures.value ∙ c.in-None.is) in
    rw (← c.self.view_is) (nothing_found bucket_view c.self.inside.buckets.items c.args.id c.self.invariant.in_order at)
