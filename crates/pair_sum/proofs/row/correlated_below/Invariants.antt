use Rattle.std.proofs.Common.{◌≡◌, ◌+◌, map}
use Rattle.pair_sum.proofs.Rows.{correlated}
use Rattle.pair_sum.proofs.row.correlated_below.Given as goal

abbrev pub invariant-loop-place : goal.invariant-loop-place
invariant-loop-place g l =
    (l.sum ≡ correlated (g.C.Correlation.corr l.corr) (map g.T.Weighted.weight l.items) l.row l.place)
    × (l.steps ≡ l.initial.steps + l.place)
