-- Where the header of a file has a column.
use Rattle.std.specs.Prelude.{ℕ, ◌+◌, List, [], ◌∷◌, Bool, not, ◌||◌, ◌==◌, Option, Some, None, if◌then◌else◌}
use Rattle.std.specs.List.{filter}
use Rattle.simm_kinds.specs.Words.{is_word}

-- a byte that counts in a column's name: no space, and no underscore
abbrev pub is_counted : ℕ → Bool
is_counted b = not (b == 32 || b == 95)

-- names are compared in any case, without spaces and underscores
abbrev pub is_named : List ℕ → List ℕ → Bool
is_named name field = is_word name (filter is_counted field)

-- the first place with the name, in a part of the header whose first place this is
abbrev pub place_from : ℕ → List ℕ → List (List ℕ) → Option ℕ
place_from place name [] = None
place_from place name (field ∷ more) = if is_named name field then Some place else place_from (place + 1) name more

abbrev pub place_named : List (List ℕ) → List ℕ → Option ℕ
place_named header name = place_from 0 name header
