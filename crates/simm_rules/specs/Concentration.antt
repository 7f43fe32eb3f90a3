-- Concentration.
-- (ISDA SIMM methodology, concentration: the concentration risk factor of a group of sensitivities.)
use Rattle.std.specs.Prelude.{◌^◌, ℤ, pos, ◌*ℤ◌, ◌≤ℤ◌, unsigned_abs}
use Rattle.std.specs.Int.{int_min, int_max}
use Rattle.simm_kinds.specs.MhUnits.Rounding.{up, down, root}

-- 1, in millionths
abbrev pub one : ℤ
one = pos 1000000

-- The concentration factor of a net sensitivity x over a threshold T, in millionths: the root of |x| / T rounded up,
-- and at least 1.
abbrev pub cr : ℤ → ℤ → ℤ
cr x T = int_max one (root (up (pos (unsigned_abs x) *ℤ pos (10 ^ 12)) T))

-- the least number from 1 on with c * c * T at least |x| * 10^12
pub record IsConcentration (x T c : ℤ) : Type 0 where
  pub not_below_one : one ≤ℤ c
  pub enough : (pos (unsigned_abs x) *ℤ pos (10 ^ 12)) ≤ℤ (c *ℤ c *ℤ T)
  pub least : (d : ℤ) → one ≤ℤ d → (pos (unsigned_abs x) *ℤ pos (10 ^ 12)) ≤ℤ (d *ℤ d *ℤ T) → c ≤ℤ d

-- the lesser of two concentration factors over the greater, rounded down
abbrev pub ratio : ℤ → ℤ → ℤ
ratio a b = down (int_min a b *ℤ one) (int_max a b)
