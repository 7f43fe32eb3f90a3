use Rattle.std.proofs.Common.{drop, to_z, ◌∙◌}
use Rattle.std.specs.Int.{w128}
use Rattle.std.proofs.lemmas.List.{drop_all}
use Rattle.schedule_im.specs.Parts.{share}
use Rattle.schedule_im.specs.Rule.{charge, is_notional_of}
use Rattle.schedule_im.proofs.Adding.{ends, grows, total_kept}
use Rattle.schedule_im.proofs.gross.gross_of.Goals as goal

pub loop-row-preserved : goal.loop-row-preserved
loop-row-preserved c =
    let s = c.share-gross.ensures in
    let so_far = c.loop-row.invariant in
    let g = grows (share c.args.day c.args.class) c.args.rows.now c.loop-row.row-index c.row-item.result (to_z w128 c.loop-row.gross-bits) c.share-gross.result
    c.requires c.loop-row-test.true c.row-item.is s.value s.size s.low so_far.low so_far.adds in
    rw (g.own, g.both) (record { adds = g.adds; low = g.low })

pub returns-clause-value : goal.returns-clause-value
returns-clause-value c =
    let rows = c.args.rows.now in
    let at = c.loop-row.row-index in
    ends (share c.args.day c.args.class) rows (drop at rows) (to_z w128 c.loop-row.gross-bits) (drop_all at rows c.loop-row-test.false) c.loop-row.invariant.adds
    ∙ total_kept (charge c.args.day) (is_notional_of c.args.class) rows
