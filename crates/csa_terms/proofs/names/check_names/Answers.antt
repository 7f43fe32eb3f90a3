use Rattle.csa_terms.proofs.Loops.{names_differ}
use Rattle.csa_terms.proofs.names.check_names.Goals as goal

pub returns-in-None-clause-different : goal.returns-in-None-clause-different
returns-in-None-clause-different c = names_differ c.args.sets.now c.in-None.ensures
