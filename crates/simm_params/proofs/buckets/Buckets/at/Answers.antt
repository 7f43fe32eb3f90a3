use Rattle.std.proofs.Common.{◌∙◌, sym, ap}
use Rattle.std.proofs.lemmas.List.{length-map, get_or-map}
use Rattle.simm_params.specs.BucketView.{bucket_view}
use Rattle.simm_params.proofs.buckets.Buckets.at.Goals as goal

pub returns : goal.returns
returns c =
    let held = c.self.inside.buckets.items in
    let within = simp length-map at (rw (← c.self.view_is) at c.requires) in
    rw (← c.self.view_is)
    (ap bucket_view c.index.ensures ∙ sym (get_or-map bucket_view held c.args.place c.index.result.now (bucket_view c.index.result.now) within))
