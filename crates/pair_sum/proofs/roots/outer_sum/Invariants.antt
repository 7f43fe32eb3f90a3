use Rattle.std.proofs.Common.{◌≡◌}
use Rattle.pair_sum.specs.PairTotal.{margins, held_sums}
use Rattle.pair_sum.proofs.Outer.{outer_below}
use Rattle.pair_sum.proofs.roots.outer_sum.Given as goal

abbrev pub invariant-loop-row : goal.invariant-loop-row
invariant-loop-row g l =
    l.sum ≡ outer_below (g.C.Correlation.corr l.gamma) (margins l.parts) (held_sums l.parts) l.row
