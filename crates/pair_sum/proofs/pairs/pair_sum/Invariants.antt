use Rattle.std.proofs.Common.{◌≡◌, ◌+◌, ◌*◌, map}
use Rattle.pair_sum.specs.PairTotal.{term}
use Rattle.pair_sum.proofs.Squares.{square}
use Rattle.pair_sum.proofs.pairs.pair_sum.Given as goal

abbrev pub invariant-loop-row : goal.invariant-loop-row
invariant-loop-row g l =
    (l.sum ≡ square (term (g.C.Correlation.corr l.corr) (map g.T.Weighted.weight l.items)) l.row)
    × (2 * l.steps ≡ 2 * l.initial.steps + l.row * (l.row + 1))
