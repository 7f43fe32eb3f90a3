use Rattle.std.proofs.Common.{rules}
use Rattle.mh_units.specs.Numeral.{cents_of}
use Rattle.mh_units.proofs.Written.{cents_told}
use Rattle.mh_units.proofs.numeral.read_cents.Goals as goal

pub returns-clause-nearest : goal.returns-clause-nearest
unfolding cents_of
returns-clause-nearest c = (cents_told c.args.text.now c.map.result (search rules)).nearest

pub returns-clause-answer : goal.returns-clause-answer
unfolding cents_of
returns-clause-answer c = (cents_told c.args.text.now c.map.result (search rules)).answer
