use Rattle.std.proofs.Common.{arith, map, ◌∷◌, [], ◌++◌, refl, ap, ◌∙◌}
use Rattle.feed_gate.specs.Met.{Met}
use Rattle.feed_gate.proofs.Reports.{answer_few}
use Rattle.feed_gate.proofs.EachSet.{seats_stay}
use Rattle.feed_gate.proofs.ManyFeeds.{ran_none, ran_more, ran_feed}
use Rattle.feed_gate.proofs.feed.run_feed.Goals as goal

pub loop-end-init : goal.loop-end-init
loop-end-init g c = (
  ([], ran_none g.S.Source.seen c.args.names.now c.args.job.now c.new.result c.new.ensures),
  refl,
  omega (arith, ap (λ r. r.done) c.new.ensures),
)

-- the seats are still of their cells
pub take_item-requires-clause-seats : goal.take_item-requires-clause-seats
take_item-requires-clause-seats g c lifetimes live =
    seats_stay c.loop-end.invariant.0.0 c.args.names.now c.args.cells.now c.args.job.now.seats.items c.loop-end.job.seats.items c.requires.named c.requires.seats c.loop-end.invariant.0.1.sets

pub returns-in-Some : goal.returns-in-Some
returns-in-Some g c =
    let ran = c.loop-end.invariant.0.1 in
    let last = c.in-Some.ensures.takes c.args.job.now.lines (map (λ (m : Met). m.item) c.loop-end.invariant.0.0) ran.told in
    ran_feed g.S.Source.seen c.args.names.now c.args.job.now c.loop-end.job c.take_item.new.job c.loop-end.invariant.0.0 c.in-Some.end ran last (c.in-Some.ensures.number ∙ c.loop-end.invariant.1)

pub loop-end-preserved : goal.loop-end-preserved
loop-end-preserved g c =
    let ran = c.loop-end.invariant.0.1 in
    let t = c.in_default.ensures.takes c.args.job.now.lines (map (λ (m : Met). m.item) c.loop-end.invariant.0.0) ran.told in
    let forward = c.in_default.ensures.forward refl in (
      (
        c.loop-end.invariant.0.0 ++ record { item = t.item; refused = t.takes.refused } ∷ [],
        ran_more g.S.Source.seen c.args.names.now c.args.job.now c.loop-end.job c.take_item.new.job c.loop-end.invariant.0.0 ran t,
      ),
      c.in_default.ensures.number ∙ c.loop-end.invariant.1,
      omega (arith, ap (λ r. r.done) t.takes.report, answer_few c.loop-end.job.report t.takes.refused, forward, c.loop-end.invariant.2),
    )
