-- What each matrix keeps.
use Rattle.std.specs.Prelude.{◌≡◌, List, length, ℤ}
use Rattle.std.specs.List.{All}

-- each row is as long as there are rows
abbrev pub IsSquare : List (List ℤ) → Type 0
IsSquare rows = All (λ row. length row ≡ length rows) rows
