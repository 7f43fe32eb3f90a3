use Rattle.std.proofs.Common.{rules}
use Rattle.mh_units.specs.Numeral.{rate4_of}
use Rattle.mh_units.proofs.Written.{rate4_told}
use Rattle.mh_units.proofs.numeral.read_rate4.Goals as goal

pub returns-clause-nearest : goal.returns-clause-nearest
unfolding rate4_of
returns-clause-nearest c = (rate4_told c.args.text.now c.map.result (search rules)).nearest

pub returns-clause-answer : goal.returns-clause-answer
unfolding rate4_of
returns-clause-answer c = (rate4_told c.args.text.now c.map.result (search rules)).answer
