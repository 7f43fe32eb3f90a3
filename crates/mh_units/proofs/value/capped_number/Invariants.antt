use Rattle.std.proofs.Common.{◌≡◌, min, take}
use Rattle.mh_units.specs.Numeral.{number_after}
use Rattle.mh_units.proofs.value.capped_number.Given as goal

abbrev pub invariant-loop-byte : goal.invariant-loop-byte
invariant-loop-byte l = l.number ≡ min (number_after l.start (take l.byte-index l.digits)) l.cap
