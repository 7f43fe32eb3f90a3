-- A comparison that holds.
use Rattle.std.proofs.Common.{◌≡◌, true, ℤ, int_le, ◌≤ℤ◌, arith}
use Rattle.std.proofs.lemmas.Int.{ints}

pub le_from : (a b : ℤ) → int_le a b ≡ true → a ≤ℤ b
le_from a b h = grind (arith, ints)
