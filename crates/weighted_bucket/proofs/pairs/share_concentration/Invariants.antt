use Rattle.std.proofs.Common.{◌≡◌, ℕ, ◌<◌}
use Rattle.weighted_bucket.specs.Correlated.{cr_at}
use Rattle.weighted_bucket.proofs.pairs.share_concentration.Given as goal

abbrev pub invariant-loop-factor : goal.invariant-loop-factor
invariant-loop-factor l = (k : ℕ) → k < l.factor-index → cr_at l.factors k ≡ l.first.cr.0
