use Rattle.bucket_cache.proofs.Replaced.{IsSearched}
use Rattle.bucket_cache.proofs.replacing.first_unadmitted_now.Given as goal

abbrev pub invariant-loop-rows : goal.invariant-loop-rows
invariant-loop-rows l = IsSearched l.params l.current.entries l.trade l.rows-iterator
