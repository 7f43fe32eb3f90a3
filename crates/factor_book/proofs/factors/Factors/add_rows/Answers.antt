use Rattle.std.proofs.Common.{take, sym, subst}
use Rattle.std.proofs.lemmas.List.{take_all}
use Rattle.factor_book.proofs.Rows.{Adds, adds_none, adds_more, room_left, front_held, front_taken, next_small, front_small, rows_added}
use Rattle.factor_book.proofs.factors.Factors.add_rows.Goals as goal

pub loop-index-init : goal.loop-index-init
loop-index-init c = adds_none c.args.self.now

pub add_row-requires-clause-room : goal.add_row-requires-clause-room
add_row-requires-clause-room c =
    room_left c.args.self.now c.loop-index.self c.args.rows.now c.loop-index.index c.index-rows-index.result c.loop-index-test.true c.index-rows-index.is c.requires.room c.loop-index.invariant

pub add_row-requires-clause-amounts : goal.add_row-requires-clause-amounts
add_row-requires-clause-amounts c = next_small c.args.rows.now c.loop-index.index c.index-rows-index.result c.loop-index-test.true c.index-rows-index.is c.requires.amounts

pub take_each-requires : goal.take_each-requires
take_each-requires c =
    front_held c.args.self.now c.add_row.new.self (take c.loop-index.index c.args.rows.now) c.facts.ensures (front_small c.args.rows.now c.loop-index.index c.requires.amounts)
    (subst (λ now. Adds c.args.self.now now (take c.loop-index.index c.args.rows.now)) (sym c.in-Err.ensures.err) c.loop-index.invariant)

pub returns-in-Err-clause-err : goal.returns-in-Err-clause-err
returns-in-Err-clause-err c =
    front_taken c.args.self.now c.add_row.new.self c.take_each.new.self (take c.loop-index.index c.args.rows.now) c.facts.ensures
    (subst (λ now. Adds c.args.self.now now (take c.loop-index.index c.args.rows.now)) (sym c.in-Err.ensures.err) c.loop-index.invariant)
    c.take_each.ensures

pub loop-index-preserved : goal.loop-index-preserved
loop-index-preserved c =
    adds_more c.args.self.now c.loop-index.self c.add_row.new.self c.args.rows.now c.loop-index.index c.index-rows-index.result c.loop-index-test.true c.index-rows-index.is c.loop-index.invariant
    c.in_default.ensures.ok

pub returns-clause-ok : goal.returns-clause-ok
returns-clause-ok c =
    rows_added c.args.self.now c.loop-index.self c.args.rows.now (subst (Adds c.args.self.now c.loop-index.self) (take_all c.loop-index.index c.args.rows.now c.loop-index-test.false) c.loop-index.invariant)
