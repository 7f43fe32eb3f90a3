use Rattle.std.proofs.Common.{rules, arith}
use Rattle.std.proofs.lemmas.Int.{ints}
use Rattle.concentration.proofs.Factors.{factor_from, factor_of_few}
use Rattle.concentration.proofs.cr.Goals as goal

pub returns-then-size-threshold-clause-value : goal.returns-then-size-threshold-clause-value
returns-then-size-threshold-clause-value c = factor_of_few c.args.net c.args.threshold c.requires.positive (omega (arith, ints))

pub returns-then-size-threshold-clause-least : goal.returns-then-size-threshold-clause-least
returns-then-size-threshold-clause-least c = factor_from c.args.net c.args.threshold _ c.requires.positive (factor_of_few c.args.net c.args.threshold c.requires.positive (omega (arith, ints)))

pub returns-clause-least : goal.returns-clause-least
returns-clause-least c = factor_from c.args.net c.args.threshold _ c.requires.positive (search rules)
