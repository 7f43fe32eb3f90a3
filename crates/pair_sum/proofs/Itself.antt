-- What makes a correlation of one that is 1 of each place with itself.
use Rattle.std.proofs.Common.{◌≡◌, ℕ, ◌≤◌, ℤ, unsigned_abs, arith}
use Rattle.std.proofs.lemmas.Bool.Decides.{nat_tests}
use Rattle.pair_sum.specs.WithItself.{with_itself}

pub with_itself-symmetric : (rho : ℕ → ℕ → ℤ) (i j : ℕ) → rho i j ≡ rho j i → with_itself rho i j ≡ with_itself rho j i
with_itself-symmetric rho i j e = grind (arith, nat_tests)

pub with_itself-at_most_one : (rho : ℕ → ℕ → ℤ) (i j : ℕ) → unsigned_abs (rho i j) ≤ 1000000 → unsigned_abs (with_itself rho i j) ≤ 1000000
with_itself-at_most_one rho i j h = grind (arith, nat_tests)
