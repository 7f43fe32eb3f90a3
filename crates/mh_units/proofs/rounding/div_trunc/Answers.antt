use Rattle.std.proofs.Common.{rules}
use Rattle.mh_units.proofs.Roundings.{trunc_from}
use Rattle.mh_units.proofs.rounding.div_trunc.Goals as goal

pub returns-clause-rule : goal.returns-clause-rule
returns-clause-rule c = trunc_from c.args.a c.args.b _ c.requires (search rules)
