use Rattle.csa_terms.proofs.Holidays.{DaysSoFar}
use Rattle.csa_terms.proofs.holiday_places.read_places.Given as goal

abbrev pub invariant-loop-index : goal.invariant-loop-index
invariant-loop-index l = DaysSoFar l.set l.days l.index l.places
