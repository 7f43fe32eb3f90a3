-- Counts of faults: each only rises, and stays at its last value once it is there.
use Rattle.std.specs.Prelude.{ℕ, ◌+◌, ◌-◌, ◌^◌, ◌<◌, ◌≤◌, min}

-- a count of faults is at most 2^64 - 1
abbrev pub IsCount : ℕ → Type 0
IsCount faults = faults < 2 ^ 64

-- a count rose, or stands at its last value
pub record Rises (old new : ℕ) : Type 0 where
  pub kept : old ≤ new
  pub rose : old < 2 ^ 64 - 1 → old < new

-- two counts together, at most the last value of a count
abbrev pub added_faults : ℕ → ℕ → ℕ
added_faults a b = min (a + b) (2 ^ 64 - 1)
