use Rattle.std.proofs.Common.{drop}
use Rattle.simm_params.specs.SimmRules.Sums.{total_by}
use Rattle.class_combine.specs.Notionals.{share_in, size_at}
use Rattle.class_combine.proofs.Adding.{Adds}
use Rattle.class_combine.proofs.notional.notional_add_on.Given as goal

abbrev pub invariant-loop-row : goal.invariant-loop-row
invariant-loop-row l = Adds (share_in (size_at l.sums.notionals)) (total_by (share_in (size_at l.sums.notionals)) l.parameters) (drop l.row-index l.parameters) l.sum
