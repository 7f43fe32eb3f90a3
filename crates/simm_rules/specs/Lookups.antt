-- Places in the tables of the parameters.
use Rattle.std.specs.Prelude.{ℕ, List, [], slice_index_or, Bool, ℤ, pos, ◌*ℤ◌}
use Rattle.std.specs.List.{list_any}
use Rattle.simm_kinds.specs.Order.{same_name}

abbrev pub is_listed : List (List ℕ) → List ℕ → Bool
is_listed currencies currency = list_any (same_name currency) currencies

-- the number at a place that the list has
abbrev pub at_place : List ℤ → ℕ → ℤ
at_place numbers i = slice_index_or numbers i (pos 0)

-- the number in a row and a column that the matrix has
abbrev pub at_row : List (List ℤ) → ℕ → ℕ → ℤ
at_row rows i j = at_place (slice_index_or rows i []) j

-- a correlation in ten-thousandths as one in millionths
abbrev pub six : ℤ → ℤ
six rate = pos 100 *ℤ rate
