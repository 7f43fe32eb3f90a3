use Rattle.class_combine.proofs.Rows.{left_held, left_less, all_taken}
use Rattle.class_combine.proofs.sums.AddOnSums.take_each.Goals as goal

pub take_row-requires : goal.take_row-requires
take_row-requires c =
    left_held c.args.self.now c.loop-row.self c.args.rows.now c.loop-row.row-index c.row-item.result c.requires c.loop-row-test.true c.row-item.is c.loop-row.invariant

pub loop-row-preserved : goal.loop-row-preserved
loop-row-preserved c =
    left_less c.args.self.now c.loop-row.self c.take_row.new.self c.args.rows.now c.loop-row.row-index c.row-item.result c.loop-row-test.true c.row-item.is c.loop-row.invariant c.take_row.ensures

pub returns : goal.returns
returns c = all_taken c.args.self.now c.loop-row.self c.args.rows.now c.loop-row.row-index c.loop-row-test.false c.loop-row.invariant
