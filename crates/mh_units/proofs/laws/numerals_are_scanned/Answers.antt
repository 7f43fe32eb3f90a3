use Rattle.mh_units.proofs.Unique.{numeral_ends, longest_stops}
use Rattle.mh_units.proofs.laws.numerals_are_scanned.Goals as goal

pub returns-clause-ends : goal.returns-clause-ends
returns-clause-ends c = numeral_ends

pub returns-clause-stops : goal.returns-clause-stops
returns-clause-stops c = longest_stops
