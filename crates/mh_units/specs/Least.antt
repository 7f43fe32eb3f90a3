-- The least number with a property, below a bound.
use Rattle.std.specs.Prelude.{ℕ, zero, suc, ◌≤◌, Bool, IsTrue, if◌then◌else◌}

-- the first of the `count` numbers from `start` on that passes the test, or the one after them where none passes
unfoldable pub first_from : (ℕ → Bool) → ℕ → ℕ → ℕ
first_from passes zero start = start
first_from passes (suc count) start = if passes start then start else first_from passes count (suc start)

-- n passes the test, and no smaller number does
pub record IsLeast (passes : ℕ → Bool) (n : ℕ) : Type 0 where
  pub enough : IsTrue (passes n)
  pub least : (m : ℕ) → IsTrue (passes m) → n ≤ m
