use Rattle.std.proofs.Common.{◌≡◌, ◌*◌, ◌^◌, min}
use Rattle.mh_units.proofs.value.with_zeros.Given as goal

abbrev pub invariant-loop : goal.invariant-loop
invariant-loop l = l.size ≡ min (l.number * 10 ^ l.counter) (10 ^ 16)
