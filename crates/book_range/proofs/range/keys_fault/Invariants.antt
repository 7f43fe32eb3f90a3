use Rattle.std.proofs.Common.{◌≡◌, map}
use Rattle.simm_params.specs.SimmRules.Sums.{first_some}
use Rattle.book_range.specs.Faults.{place_fault, keys_fault}
use Rattle.book_range.proofs.range.keys_fault.Given as goal

abbrev pub invariant-loop-lent : goal.invariant-loop-lent
invariant-loop-lent l = first_some (map place_fault l.lent-iterator) ≡ keys_fault l.factors
