use Rattle.std.proofs.Common.{rules}
use Rattle.mh_units.proofs.Roundings.{up_from}
use Rattle.mh_units.proofs.rounding.div_up.Goals as goal

pub returns-then-a-gt0-clause-least : goal.returns-then-a-gt0-clause-least
returns-then-a-gt0-clause-least c = up_from c.args.a c.args.b _ c.requires (search rules)

pub returns-else-a-gt0-clause-least : goal.returns-else-a-gt0-clause-least
returns-else-a-gt0-clause-least c = up_from c.args.a c.args.b _ c.requires (search rules)
