use Rattle.margin_schedule.proofs.MarginLemmas.{rows_end}
use Rattle.margin_schedule.proofs.margin_of.margin_of_file.Goals as goal

pub returns-in-Ok-clause-ends : goal.returns-in-Ok-clause-ends
returns-in-Ok-clause-ends g c =
    rows_end c.args.day c.args.crif.now _ _ c.in-Ok.rows.items c.margin_of_rows.result c.in-Ok.ensures.ends (rw c.deref.ensures.value at c.margin_of_rows.ensures)
