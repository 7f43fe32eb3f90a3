use Rattle.std.proofs.Common.{◌≡◌, ◌+◌, ◌≤◌, ◌<◌, map}
use Rattle.pair_sum.specs.Marked.{beside}
use Rattle.pair_sum.proofs.Rows.{correlated}
use Rattle.pair_sum.proofs.beside.correlated_beside.Given as goal

abbrev pub invariant-loop-place : goal.invariant-loop-place
invariant-loop-place g l =
    (l.sum ≡ correlated (beside (g.M.Marks.is_marked l.marked) (g.C.Correlation.corr l.corr)) (map g.T.Weighted.weight l.items) l.row l.place)
    × (l.steps ≤ l.initial.steps + l.place)
    × (l.row < l.place → l.steps + 1 ≤ l.initial.steps + l.place)
