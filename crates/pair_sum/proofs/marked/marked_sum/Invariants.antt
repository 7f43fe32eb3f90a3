use Rattle.std.proofs.Common.{◌≡◌, ◌+◌, ◌*◌, ◌≤◌, map, length}
use Rattle.pair_sum.specs.Marked.{count_marked, marked_before, marked_total}
use Rattle.pair_sum.proofs.marked.marked_sum.Given as goal

abbrev pub invariant-loop-row : goal.invariant-loop-row
invariant-loop-row g l =
    let marked = g.M.Marks.is_marked l.marked in
    (l.sum ≡ marked_total (marked_before marked l.row) (g.C.Correlation.corr l.corr) (map g.T.Weighted.weight l.items))
    × (l.steps ≤ l.initial.steps + count_marked marked l.row * length l.items)
