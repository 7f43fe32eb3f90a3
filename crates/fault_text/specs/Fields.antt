-- The printed text: fields parted by one tab, and LF at the end of each line.
use Rattle.std.specs.Prelude.{ℕ, ◌==◌, List, [], ◌∷◌, ◌++◌, ℤ, unsigned_abs, Bool, if◌then◌else◌, Option, Some, None, codes}
use Rattle.mh_units.specs.Money.{money_text}

-- a field that another follows
abbrev pub field : List ℕ → List ℕ
field bytes = bytes ++ 9 ∷ []

-- the last field of a line
abbrev pub last_field : List ℕ → List ℕ
last_field bytes = bytes ++ 10 ∷ []

abbrev pub is_zero : ℤ → Bool
is_zero amount = unsigned_abs amount == 0

-- a line with an amount, only where the amount isn't 0
abbrev pub amount_line : List ℕ → ℤ → List ℕ
amount_line fields amount = if is_zero amount then [] else fields ++ last_field (money_text amount)

-- the line of a fault by its number, behind what it begins with; want of memory has no number, and no line
abbrev pub numbered_line : List ℕ → Option ℕ → (ℕ → List ℕ) → List ℕ
numbered_line begun None fields = []
numbered_line begun (Some number) fields = begun ++ fields number

-- the line of a fault of the file that the word names
abbrev pub fault_line : List ℕ → Option ℕ → (ℕ → List ℕ) → List ℕ
fault_line word number fields = numbered_line (field (codes "FAULT") ++ field word) number fields
