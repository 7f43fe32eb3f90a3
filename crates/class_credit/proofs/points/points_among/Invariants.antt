use Rattle.std.proofs.Common.{◌≡◌, ◌++◌}
use Rattle.class_credit.specs.Points.{point_nets, points_view}
use Rattle.class_credit.proofs.points.points_among.Given as goal

abbrev pub invariant-loop-key : goal.invariant-loop-key
invariant-loop-key l = points_view l.nets.items ++ point_nets l.key-iterator ≡ point_nets l.lent.factors
