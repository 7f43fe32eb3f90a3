use Rattle.std.proofs.Common.{◌≡◌, ◌++◌}
use Rattle.factor_book.proofs.factors.Factors.copy.Given as goal

abbrev pub invariant-loop-address : goal.invariant-loop-address
invariant-loop-address l = l.by_place.entries ++ l.address-iterator ≡ l.initial.address-iterator
