use Rattle.std.proofs.Common.{rules}
use Rattle.pool_gate.proofs.Feeds.{called_where}
use Rattle.pool_gate.proofs.answering.call.Goals as goal

pub returns-clause-ok : goal.returns-clause-ok
returns-clause-ok g c =
    called_where c.args.terms.now c.args.line c.args.margin c.args.booked _ _ c.call_amount_at-call.result c.args.job.now c.add_line.new.self c.add_line.result c.add_line.ensures.ok
    (search rules) (search rules) (search rules)
