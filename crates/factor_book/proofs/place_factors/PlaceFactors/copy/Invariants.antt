use Rattle.std.proofs.Common.{◌≡◌, ◌++◌}
use Rattle.factor_book.proofs.place_factors.PlaceFactors.copy.Given as goal

abbrev pub invariant-loop-key : goal.invariant-loop-key
invariant-loop-key l = l.by_key.entries ++ l.key-iterator ≡ l.self.factors
