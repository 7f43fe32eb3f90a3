use Rattle.std.proofs.Common.{map, ◌∷◌, [], ◌++◌}
use Rattle.pool_gate.specs.Met.{Met}
use Rattle.pool_gate.proofs.SeatSteps.{still_of}
use Rattle.pool_gate.proofs.Feeds.{ran_none, ran_more, ran_job}
use Rattle.pool_gate.proofs.feed.run_feed.Goals as goal

pub loop-end-init : goal.loop-end-init
loop-end-init g c = ([], ran_none g.S.Source.seen c.args.terms.now c.args.job.now)

-- the seat is still of the pool
pub take_line-requires-clause-seat : goal.take_line-requires-clause-seat
take_line-requires-clause-seat g c lifetimes live = still_of c.args.pool.now c.args.job.now.seat c.loop-end.job.seat c.requires.seat c.loop-end.invariant.1.seat.same

pub returns-in-Some : goal.returns-in-Some
returns-in-Some g c =
    let mets = c.loop-end.invariant.0 in
    let ran = c.loop-end.invariant.1 in
    let last = c.in-Some.ensures.takes c.args.job.now.lines (map (λ (m : Met). m.item) mets) ran.told in
    ran_job g.S.Source.seen c.args.terms.now c.args.job.now c.loop-end.job c.take_line.new.job mets c.in-Some.end ran last

pub loop-end-preserved : goal.loop-end-preserved
loop-end-preserved g c =
    let mets = c.loop-end.invariant.0 in
    let ran = c.loop-end.invariant.1 in
    let t = c.in_default.ensures.takes c.args.job.now.lines (map (λ (m : Met). m.item) mets) ran.told in (
      mets ++ record { item = t.item; reply = t.meets.reply } ∷ [],
      ran_more g.S.Source.seen c.args.terms.now c.args.job.now c.loop-end.job c.take_line.new.job mets ran t,
    )
