use Rattle.std.proofs.Common.{◌≡◌}
use Rattle.weighted_bucket.proofs.WeightedSums.{sum_of_first}
use Rattle.weighted_bucket.proofs.sums.sum.Given as goal

abbrev pub invariant-loop-factor : goal.invariant-loop-factor
invariant-loop-factor l = l.sum ≡ sum_of_first l.factors l.factor-index
