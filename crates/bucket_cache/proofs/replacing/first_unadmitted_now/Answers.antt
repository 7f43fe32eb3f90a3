use Rattle.std.proofs.Common.{◌∙◌}
use Rattle.bucket_cache.proofs.Replaced.{search_begins}
use Rattle.bucket_cache.proofs.replacing.first_unadmitted_now.Goals as goal

pub loop-rows-init : goal.loop-rows-init
loop-rows-init c =
    search_begins c.args.params.now c.args.current.now.entries c.into_iter-rows-iterator.result (c.into_iter-rows-iterator.ensures.into_iter_gives ∙ c.values-rows-items.ensures.rest) c.requires
