use Rattle.std.proofs.Common.{◌≡◌, map, take}
use Rattle.class_credit.specs.Points.{point_view}
use Rattle.class_credit.specs.Unweighed.{weighing_at}
use Rattle.class_credit.proofs.curvature.curvature_weighings.Given as goal

abbrev pub invariant-loop-point : goal.invariant-loop-point
invariant-loop-point l = l.weighings.items ≡ map (λ point. weighing_at l.sigma.0 (point_view point)) (take l.point-index l.points)
