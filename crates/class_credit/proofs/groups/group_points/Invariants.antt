use Rattle.class_credit.specs.Groups.{issuers_view}
use Rattle.class_credit.proofs.Grouping.{Grouping}
use Rattle.class_credit.proofs.groups.group_points.Given as goal

abbrev pub invariant-loop-place : goal.invariant-loop-place
invariant-loop-place l = Grouping l.threshold (issuers_view l.points) l.place l.group l.grouped.items
