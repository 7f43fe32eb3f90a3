use Rattle.std.proofs.Common.{rules}
use Rattle.csa_calls.proofs.Multiples.{greatest_multiple_from}
use Rattle.csa_calls.proofs.multiple_down.Goals as goal

pub returns-clause-rule : goal.returns-clause-rule
returns-clause-rule c = greatest_multiple_from c.args.amount c.args.unit _ c.requires.unit.low (search rules)
