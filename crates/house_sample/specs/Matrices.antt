-- Correlations that are all alike.
use Rattle.std.specs.Prelude.{ℕ, zero, suc, ◌==◌, List, [], ◌∷◌, ◌++◌, ℤ, pos, if◌then◌else◌}

-- the first places of a list of one rate, in ten-thousandths
abbrev pub alike : ℤ → ℕ → List ℤ
alike rate zero = []
alike rate (suc n) = alike rate n ++ rate ∷ []

-- the first columns of the row at a place, from 0: 1 on the diagonal, the rate elsewhere
abbrev pub row_to : ℤ → ℕ → ℕ → List ℤ
row_to rate place zero = []
row_to rate place (suc n) = row_to rate place n ++ (if place == n then pos 10000 else rate) ∷ []

-- the first rows, of so many columns each
abbrev pub rows_to : ℤ → ℕ → ℕ → List (List ℤ)
rows_to rate size zero = []
rows_to rate size (suc n) = rows_to rate size n ++ row_to rate n size ∷ []

-- a square matrix
abbrev pub even : ℤ → ℕ → List (List ℤ)
even rate size = rows_to rate size size
