use Rattle.std.proofs.Common.{subst}
use Rattle.std.proofs.lemmas.List.{take_all}
use Rattle.factor_book.proofs.Rows.{next_small}
use Rattle.factor_book.proofs.Nets.{Nets, nets_none, nets_more, net_room_left}
use Rattle.factor_book.proofs.netted_rows.NettedRows.add_rows.Goals as goal

pub loop-row-init : goal.loop-row-init
loop-row-init c = nets_none c.args.self.now

pub add_row-requires-clause-room : goal.add_row-requires-clause-room
add_row-requires-clause-room c =
    net_room_left c.args.self.now c.loop-row.self c.args.rows.now c.loop-row.row-index c.row-item.result c.loop-row-test.true c.requires.room c.requires.amounts c.loop-row.invariant

pub add_row-requires-clause-amounts : goal.add_row-requires-clause-amounts
add_row-requires-clause-amounts c = next_small c.args.rows.now c.loop-row.row-index c.row-item.result c.loop-row-test.true c.row-item.is c.requires.amounts

pub loop-row-preserved : goal.loop-row-preserved
loop-row-preserved c =
    nets_more c.args.self.now c.loop-row.self c.add_row.new.self c.args.rows.now c.loop-row.row-index c.row-item.result c.loop-row-test.true c.row-item.is c.loop-row.invariant c.in_ok-add_row.ensures

pub returns : goal.returns
returns c = subst (Nets c.args.self.now c.loop-row.self) (take_all c.loop-row.row-index c.args.rows.now c.loop-row-test.false) c.loop-row.invariant
