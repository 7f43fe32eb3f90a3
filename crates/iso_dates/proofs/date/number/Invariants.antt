use Rattle.iso_dates.proofs.Digits.{AreRead}
use Rattle.iso_dates.proofs.date.number.Given as goal

abbrev pub invariant-loop-digit : goal.invariant-loop-digit
invariant-loop-digit l = AreRead l.digits l.number l.digit-index
