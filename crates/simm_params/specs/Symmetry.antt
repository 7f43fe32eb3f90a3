-- Which matrices are symmetric, and which are those of correlations.
use Rattle.std.specs.Prelude.{◌≡◌, ◌<◌, ℕ, List, length, ℤ, pos}
use Rattle.simm_params.specs.Matrix.{entry}

abbrev pub IsSymmetric : List (List ℤ) → Type 0
IsSymmetric matrix = (row column : ℕ) → row < length matrix → column < length matrix → entry matrix row column ≡ entry matrix column row

abbrev pub HasUnitDiagonal : List (List ℤ) → Type 0
HasUnitDiagonal matrix = (place : ℕ) → place < length matrix → entry matrix place place ≡ pos 10000

pub record AreMirrored (matrix : List (List ℤ)) : Type 0 where
  pub symmetric : IsSymmetric matrix
  pub diagonal : HasUnitDiagonal matrix
