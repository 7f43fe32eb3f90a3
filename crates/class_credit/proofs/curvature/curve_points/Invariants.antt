use Rattle.std.proofs.Common.{◌≡◌, map, take}
use Rattle.class_credit.specs.Points.{curved_net, point_view}
use Rattle.class_credit.proofs.curvature.curve_points.Given as goal

abbrev pub invariant-loop-point : goal.invariant-loop-point
invariant-loop-point l = l.risks.items ≡ map (λ point. curved_net l.sigma.0 (point_view point)) (take l.point-index l.points)
