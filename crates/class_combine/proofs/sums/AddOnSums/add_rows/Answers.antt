use Rattle.std.proofs.Common.{take, sym, subst}
use Rattle.class_combine.proofs.Rows.{Gains, gains_none, gains_more, room_left, row_in_range, front_held, front_taken, all_gained}
use Rattle.class_combine.proofs.sums.AddOnSums.add_rows.Goals as goal

pub loop-index-init : goal.loop-index-init
loop-index-init c = gains_none c.args.self.now

pub add_row-requires-clause-room : goal.add_row-requires-clause-room
add_row-requires-clause-room c =
    room_left c.args.self.now c.loop-index.self c.args.rows.now c.loop-index.index c.loop-index-test.true c.requires.amounts c.requires.room c.loop-index.invariant

pub add_row-requires-clause-amount : goal.add_row-requires-clause-amount
add_row-requires-clause-amount c = row_in_range c.args.rows.now c.loop-index.index c.index-rows-index.result c.loop-index-test.true c.index-rows-index.is c.requires.amounts

pub take_each-requires : goal.take_each-requires
take_each-requires c =
    front_held c.args.self.now c.add_row.new.self c.args.rows.now c.loop-index.index c.requires.amounts c.requires.room
    (subst (λ now. Gains c.args.self.now now (take c.loop-index.index c.args.rows.now)) (sym c.in-Err.ensures.err) c.loop-index.invariant)

pub returns-in-Err-clause-err : goal.returns-in-Err-clause-err
returns-in-Err-clause-err c =
    front_taken c.args.self.now c.add_row.new.self c.take_each.new.self c.args.rows.now c.loop-index.index c.requires.room
    (subst (λ now. Gains c.args.self.now now (take c.loop-index.index c.args.rows.now)) (sym c.in-Err.ensures.err) c.loop-index.invariant)
    c.take_each.ensures

pub loop-index-preserved : goal.loop-index-preserved
loop-index-preserved c =
    gains_more c.args.self.now c.loop-index.self c.add_row.new.self c.args.rows.now c.loop-index.index c.index-rows-index.result c.loop-index-test.true c.index-rows-index.is c.loop-index.invariant
    c.in_default.ensures.ok

pub returns-clause-ok : goal.returns-clause-ok
returns-clause-ok c = all_gained c.args.self.now c.loop-index.self c.args.rows.now c.loop-index.index c.loop-index-test.false c.loop-index.invariant
