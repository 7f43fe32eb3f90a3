use Rattle.std.proofs.Common.{◌≡◌, take}
use Rattle.class_rates.specs.SimmRules.Sums.{total_by}
use Rattle.class_margin.proofs.curvature.part.sum_over.Given as goal

abbrev pub invariant-loop-value : goal.invariant-loop-value
invariant-loop-value l = l.sum ≡ total_by (λ b. b.sum) (take l.value-index l.values)
