use Rattle.class_combine.proofs.Rows.{holds_rows, rows_taken}
use Rattle.class_combine.proofs.sums.AddOnSums.take_rows.Goals as goal

pub take_each-requires : goal.take_each-requires
take_each-requires c = holds_rows c.args.self.now c.args.rows.now c.requires

pub returns : goal.returns
returns c = rows_taken c.args.self.now c.take_each.new.self c.args.rows.now c.take_each.ensures
