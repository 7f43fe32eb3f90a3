-- What the sensitivities to one key come to, as they come and go.
use Rattle.std.specs.Prelude.{ℕ, ◌+◌, ◌-◌, ◌*◌, ◌^◌, ◌<◌, ◌≤◌, List, Bool, Option, Some, None, ℤ, pos, ◌+ℤ◌, ◌-ℤ◌, unsigned_abs, ◌==◌, if◌then◌else◌, cond}
use Rattle.std.specs.Map.{lookup}
use Rattle.simm_rules.specs.SimmKinds.declared.key.FactorKey.{FactorKey}
use Rattle.simm_rules.specs.SimmKinds.Order.{same_key}
use Rattle.factor_book.specs.declared.holding.Holding.{Holding}

-- one sensitivity
abbrev pub first : ℤ → Holding
first amount = record { net = amount; size = pos (unsigned_abs amount); rows = 1 }

-- with others of the key
abbrev pub joined : Option Holding → Holding → Holding
joined None others = others
joined (Some h) others = record { net = h.net +ℤ others.net; size = h.size +ℤ others.size; rows = h.rows + others.rows }

-- what each key comes to, once others of one key have come
abbrev pub with_others : (FactorKey → Option Holding) → FactorKey → Holding → FactorKey → Option Holding
with_others had key others k = cond (same_key key k) (Some (joined (had key) others)) (had k)

-- with one more
abbrev pub grown : Option Holding → ℤ → Holding
grown h amount = joined h (first amount)

-- with one less
abbrev pub shrunk : Option Holding → ℤ → Option Holding
shrunk None amount = None
shrunk (Some h) amount =
    if h.rows == 1 then None
    else Some (record { net = h.net -ℤ amount; size = h.size -ℤ pos (unsigned_abs amount); rows = h.rows - 1 })

abbrev pub net_in : Option Holding → ℤ
net_in None = pos 0
net_in (Some h) = h.net

abbrev pub rows_in : Option Holding → ℕ
rows_in None = 0
rows_in (Some h) = h.rows

-- how many rows a key has
abbrev pub rows_at : List (FactorKey × Holding) → FactorKey → ℕ
rows_at factors k = rows_in (lookup (same_key k) factors)

-- no more sensitivities to a key than go are held: the key goes with them
abbrev pub goes : List (FactorKey × Holding) → FactorKey × Holding → Bool
goes factors f = rows_at factors f.0 == (f.1).rows

-- an amount that a batch can have
abbrev pub IsSmall : ℤ → Type 0
IsSmall amount = unsigned_abs amount ≤ 10 ^ 15

-- no more than that many of such amounts come to
pub record IsOfSmall (h : Holding) : Type 0 where
  pub net : unsigned_abs h.net ≤ h.rows * 10 ^ 15
  pub size : unsigned_abs h.size ≤ h.rows * 10 ^ 15

-- both together are fewer than 2^32
pub record CanJoin (h others : Holding) : Type 0 where
  pub had : IsOfSmall h
  pub more : IsOfSmall others
  pub few : h.rows + others.rows < 2 ^ 32

-- one of such an amount can be taken
pub record CanShrink (h : Holding) : Type 0 where
  pub net : unsigned_abs h.net ≤ h.rows * 10 ^ 15
  pub size : unsigned_abs h.size ≤ h.rows * 10 ^ 15
  pub some : 1 ≤ h.rows
