use Rattle.std.proofs.Common.{◌≡◌, [], drop}
use Rattle.bucket_cache.specs.Live.{rows_in}
use Rattle.bucket_cache.proofs.figures.batch_parameters.Given as goal

abbrev pub invariant-loop-trade : goal.invariant-loop-trade
invariant-loop-trade l = rows_in l.trades [] ≡ rows_in (drop l.trade-index l.trades) []
