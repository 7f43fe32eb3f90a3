use Rattle.std.proofs.Common.{drop}
use Rattle.bucket_cache.specs.Lent.{all_rows}
use Rattle.bucket_cache.proofs.Gaining.{Lightens}
use Rattle.bucket_cache.proofs.exchanging.sizes_without.Given as goal

abbrev pub invariant-loop-trade : goal.invariant-loop-trade
invariant-loop-trade l = Lightens l.params l.fn.sizes l.left (all_rows l.gone) (all_rows (drop l.trade-index l.gone))
