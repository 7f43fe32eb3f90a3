use Rattle.std.proofs.Common.{◌-◌}
use Rattle.csa_terms.proofs.BusinessDays.{IsOnTheWay}
use Rattle.csa_terms.proofs.due.days_until.Given as goal

abbrev pub invariant-loop-left : goal.invariant-loop-left
invariant-loop-left l = IsOnTheWay l.terms.holidays l.day l.count l.later l.left

abbrev pub decreases-loop-left : goal.decreases-loop-left
decreases-loop-left l = 5740 - l.later
