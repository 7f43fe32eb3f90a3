use Rattle.std.proofs.Common.{◌≡◌, map, take}
use Rattle.measured_bucket.specs.Explained.{unweighed_view, weighted_view}
use Rattle.measured_bucket.proofs.explained.explain.Given as goal

abbrev pub invariant-loop-place : goal.invariant-loop-place
invariant-loop-place g l =
    let m = g.M.Measured in
    (map (unweighed_view m.of) l.factors.items ≡ take l.place (m.unweighed l.measured))
    × (map (weighted_view m.of) l.factors.items ≡ take l.place (m.weighted l.measured))
