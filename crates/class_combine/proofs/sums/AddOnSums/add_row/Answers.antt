use Rattle.std.proofs.lemmas.Result.{on_ok_weaker}
use Rattle.class_combine.proofs.Rows.{fixed_grows, fixed_added, notional_grows, notional_added}
use Rattle.class_combine.proofs.sums.AddOnSums.add_row.Goals as goal

pub overflow_add-self : goal.overflow_add-self
overflow_add-self c = (fixed_grows c.args.self.now c.args.row.now c.in-FixedAmount.amount c.in-FixedAmount.is c.requires.room c.requires.amount).fits

pub add-requires-clause-room : goal.add-requires-clause-room
add-requires-clause-room c = notional_grows c.args.self.now c.args.row.now c.in-Notional.qualifier c.requires.room

pub returns-in-FixedAmount-clause-ok : goal.returns-in-FixedAmount-clause-ok
returns-in-FixedAmount-clause-ok c = fixed_added c.args.self.now c.args.row.now c.in-FixedAmount.amount c.in-FixedAmount.is c.requires.room c.requires.amount

pub returns-in-Notional-clause-ok : goal.returns-in-Notional-clause-ok
returns-in-Notional-clause-ok c = λ held e.
    on_ok_weaker c.add.result (notional_added c.args.self.now c.args.row.now c.in-Notional.qualifier c.in-Notional.amount c.add.new.self c.in-Notional.is held e) c.add.ensures.ok
