-- Counts that rose.
use Rattle.std.proofs.Common.{ℕ, ◌-◌, ◌^◌, ◌<◌, ◌≤◌, arith}
use Rattle.mh_io.specs.Faults.{Rises}

rose_by : (a b c most : ℕ) → a ≤ b → b ≤ c → (b < most → b < c) → a < most → a < c
rose_by a b c most kept on rose low = grind arith

-- a count that rose after it stood or rose
pub rises_later : {a b c : ℕ} → a ≤ b → Rises b c → Rises a c
rises_later {a} {b} {c} kept later = record {
  kept = let k = later.kept in omega arith;
  rose = λ low. rose_by a b c (2 ^ 64 - 1) kept later.kept later.rose low;
}
