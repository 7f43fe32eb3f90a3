use Rattle.std.proofs.Common.{rules}
use Rattle.mh_units.proofs.Roundings.{down_from}
use Rattle.mh_units.proofs.rounding.div_down.Goals as goal

pub returns-clause-greatest : goal.returns-clause-greatest
returns-clause-greatest c = down_from c.args.a c.args.b _ c.requires (search rules)
