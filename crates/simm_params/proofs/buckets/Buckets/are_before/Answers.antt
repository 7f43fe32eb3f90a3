use Rattle.std.proofs.Common.{◌∙◌}
use Rattle.std.proofs.lemmas.Simd.{map-map}
use Rattle.simm_params.proofs.BucketLists.{behind_last, behind_none}
use Rattle.simm_params.proofs.buckets.Buckets.are_before.Goals as goal

pub returns-in-Some : goal.returns-in-Some
returns-in-Some c =
    let at = rw c.deref.ensures.value at c.in-Some.ensures.value in
    rw (← c.self.view_is, map-map)
    (c.precedes.ensures ∙ behind_last (λ b. b.terms.id) c.args.id.now c.self.inside.buckets.items c.in-Some.last.now at (rw map-map at c.self.invariant.in_order))

pub returns-in-None : goal.returns-in-None
returns-in-None c =
    let at = rw c.deref.ensures.value at c.in-None.ensures.value in
    rw (← c.self.view_is, map-map) (behind_none (λ b. b.terms.id) c.args.id.now c.self.inside.buckets.items at)
