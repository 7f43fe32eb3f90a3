use Rattle.bucket_cache.proofs.Replaced.{IsWeighedTo}
use Rattle.bucket_cache.proofs.replacing.sizes_now.Given as goal

abbrev pub invariant-loop-rows : goal.invariant-loop-rows
invariant-loop-rows l = IsWeighedTo l.params l.current.entries l.sizes l.rows-iterator
