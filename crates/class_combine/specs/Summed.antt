-- What the notionals of one qualifier come to, as they come and go.
-- (ISDA SIMM methodology, additional initial margin: notionals do not net.)
use Rattle.std.specs.Prelude.{ℕ, ◌+◌, ◌-◌, ◌*◌, ◌^◌, ◌<◌, ◌≤◌, List, Option, Some, None, ℤ, pos, ◌+ℤ◌, ◌-ℤ◌, unsigned_abs, ◌==◌, if◌then◌else◌, refl}
use Rattle.std.specs.Coded.{Coded, code_by, coded×, coded_ℤ, coded_ℕ}
use Rattle.std.specs.FinMap.{FinMap, insert, remove}
use Rattle.simm_params.specs.SimmKinds.Order.{name_cmp}
use Rattle.class_combine.specs.declared.notional_sum.NotionalSum.{NotionalSum}

-- one notional
abbrev pub first : ℤ → NotionalSum
first amount = record { size = pos (unsigned_abs amount); rows = 1 }

-- with one more
abbrev pub grown : Option NotionalSum → ℤ → NotionalSum
grown None amount = first amount
grown (Some s) amount = record { size = s.size +ℤ pos (unsigned_abs amount); rows = s.rows + 1 }

-- with one less
abbrev pub shrunk : Option NotionalSum → ℤ → Option NotionalSum
shrunk None amount = None
shrunk (Some s) amount =
    if s.rows == 1 then None
    else Some (record { size = s.size -ℤ pos (unsigned_abs amount); rows = s.rows - 1 })

-- 0 of none
abbrev pub size_in : Option NotionalSum → ℤ
size_in None = pos 0
size_in (Some s) = s.size

-- with what is left of a qualifier in its place
abbrev pub with_left : FinMap name_cmp NotionalSum → List ℕ → Option NotionalSum → FinMap name_cmp NotionalSum
with_left sums name None = remove sums name
with_left sums name (Some s) = insert sums name s

-- an amount that a batch can have
abbrev pub IsSmall : ℤ → Type 0
IsSmall amount = unsigned_abs amount ≤ 10 ^ 15

-- one of such an amount can be added
pub record CanGrow (s : NotionalSum) : Type 0 where
  pub size : unsigned_abs s.size ≤ s.rows * 10 ^ 15
  pub few : s.rows + 1 < 2 ^ 32

-- one of such an amount can be taken
pub record CanShrink (s : NotionalSum) : Type 0 where
  pub size : unsigned_abs s.size ≤ s.rows * 10 ^ 15
  pub some : 1 ≤ s.rows

-- a sum is stored as the pair of its fields
abbrev pub sum_code : Coded NotionalSum
sum_code = code_by (ℤ × ℕ) (coded× coded_ℤ coded_ℕ) (λ s. (s.size, s.rows)) (λ p. record { size = p.0; rows = p.1 }) (λ _. refl)
