use Rattle.std.proofs.Common.{◌≡◌}
use Rattle.bucket_cache.specs.Live.{first_unadmitted}
use Rattle.bucket_cache.proofs.Admitted.{unadmitted_after}
use Rattle.bucket_cache.proofs.admitting.first_unadmitted.Given as goal

abbrev pub invariant-loop-index : goal.invariant-loop-index
invariant-loop-index l = first_unadmitted l.params l.trades ≡ unadmitted_after l.params l.trades l.index
