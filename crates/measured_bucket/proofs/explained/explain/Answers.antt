use Rattle.measured_bucket.specs.declared.explained.Explained.{Explained}
use Rattle.measured_bucket.proofs.Explaining.{weighted_more, unweighed_more}
use Rattle.measured_bucket.proofs.explained.explain.Goals as goal

pub loop-place-preserved : goal.loop-place-preserved
loop-place-preserved g c =
    let m = g.M.Measured in
    let self = c.args.measured.now in
    let nets = c.nets-nets.result.now in
    let weighings = c.in_ok-weighings.weighings.items in
    let factors = c.in_ok-column.column.factors.items in
    let e : Explained g.row.M-Net.Denot = record { net = c.index-nets-place.result; from = c.index.result.now; weighed = c.index-in-loop-place.result.now } in (
      unweighed_more m.of m.weigh nets weighings factors (m.unweighed self) (m.weighted self) c.nets-nets.ensures c.in_ok-weighings.ensures.listed c.in_ok-weighings.ensures.made c.in_ok-column.ensures.made
          c.loop-place.place c.loop-place-test.true e c.index-nets-place.is c.index.ensures c.index-in-loop-place.ensures c.loop-place.factors.items c.push.new.self.items c.in_ok-push.ensures.items c.loop-place.invariant.0,
      weighted_more m.of m.weigh nets weighings factors (m.unweighed self) (m.weighted self) c.nets-nets.ensures c.in_ok-weighings.ensures.listed c.in_ok-weighings.ensures.made c.in_ok-column.ensures.made
          c.loop-place.place c.loop-place-test.true e c.index-nets-place.is c.index.ensures c.index-in-loop-place.ensures c.loop-place.factors.items c.push.new.self.items c.in_ok-push.ensures.items c.loop-place.invariant.1,
    )
