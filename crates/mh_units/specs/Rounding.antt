-- The five roundings of the margin arithmetic: a quotient upwards, downwards, away from zero and towards zero, for b > 0, and
-- a square root upwards. Beside each function stands the written rule, which says "least" or "greatest".
use Rattle.std.specs.Prelude.{◌*◌, nat_le, ℤ, pos, negsuc, neg_ℤ, ◌*ℤ◌, ◌≤ℤ◌}
use Rattle.std.specs.Int.{int_div_euclid, int_min, int_max}
use Rattle.mh_units.specs.Least.{first_from}

-- a/b rounded downwards
abbrev pub down : ℤ → ℤ → ℤ
down a b = int_div_euclid a b

-- a/b rounded upwards
abbrev pub up : ℤ → ℤ → ℤ
up a b = neg_ℤ (down (neg_ℤ a) b)

-- a/b rounded away from zero
abbrev pub away : ℤ → ℤ → ℤ
away (pos a) b = up (pos a) b
away (negsuc a) b = down (negsuc a) b

-- a/b rounded towards zero
abbrev pub trunc : ℤ → ℤ → ℤ
trunc (pos a) b = down (pos a) b
trunc (negsuc a) b = up (negsuc a) b

-- the square root of n rounded upwards, 0 for n below 0
unfoldable pub root : ℤ → ℤ
root (pos n) = pos (first_from (λ x. nat_le n (x * x)) n 0)
root (negsuc n) = pos 0

-- x held between -k and k
abbrev pub clamp : ℤ → ℤ → ℤ
clamp x k = int_max (int_min x k) (neg_ℤ k)

-- x is the least number with x * b at least a
pub record IsUp (a b x : ℤ) : Type 0 where
  pub enough : a ≤ℤ (x *ℤ b)
  pub least : (y : ℤ) → a ≤ℤ (y *ℤ b) → x ≤ℤ y

-- x is the greatest number with x * b at most a
pub record IsDown (a b x : ℤ) : Type 0 where
  pub within : (x *ℤ b) ≤ℤ a
  pub greatest : (y : ℤ) → (y *ℤ b) ≤ℤ a → y ≤ℤ x

-- upwards for a >= 0, downwards below
abbrev pub IsAway : ℤ → ℤ → ℤ → Type 0
IsAway (pos a) b x = IsUp (pos a) b x
IsAway (negsuc a) b x = IsDown (negsuc a) b x

-- downwards for a >= 0, upwards below
abbrev pub IsTrunc : ℤ → ℤ → ℤ → Type 0
IsTrunc (pos a) b x = IsDown (pos a) b x
IsTrunc (negsuc a) b x = IsUp (negsuc a) b x

-- x is the least number from 0 on whose square is at least n
pub record IsRoot (n x : ℤ) : Type 0 where
  pub not_negative : pos 0 ≤ℤ x
  pub enough : n ≤ℤ (x *ℤ x)
  pub least : (y : ℤ) → pos 0 ≤ℤ y → n ≤ℤ (y *ℤ y) → x ≤ℤ y
