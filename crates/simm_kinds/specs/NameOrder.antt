-- The order of names and of currencies: byte by byte.
use Rattle.std.specs.Prelude.{ℕ, List, Bool}
use Rattle.std.specs.Ordering.{nat_cmp, is_eq, is_lt}
use Rattle.std.specs.declared.cmp.Ordering.{Ordering}
use Rattle.std.specs.Cmp.Lexicographic.{slice_cmp}

abbrev pub name_cmp : List ℕ → List ℕ → Ordering
name_cmp = slice_cmp nat_cmp

abbrev pub same_name : List ℕ → List ℕ → Bool
same_name a b = is_eq (name_cmp a b)

abbrev pub comes_before : List ℕ → List ℕ → Bool
comes_before a b = is_lt (name_cmp a b)
