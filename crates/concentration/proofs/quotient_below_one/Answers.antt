use Rattle.std.proofs.Common.{rules}
use Rattle.concentration.proofs.Factors.{quotient_high}
use Rattle.concentration.proofs.quotient_below_one.Goals as goal

pub returns-clause-at_most_one : goal.returns-clause-at_most_one
returns-clause-at_most_one c = quotient_high c.args.lesser c.args.greater _ c.requires.low c.requires.positive c.requires.ordered (search rules)
