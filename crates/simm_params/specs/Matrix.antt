-- Lists and square matrices of rates.
use Rattle.std.specs.Prelude.{◌≡◌, ℕ, List, [], length, slice_index_or, ℤ, pos}
use Rattle.std.specs.List.{All}
use Rattle.toml_values.specs.declared.range.Range.{Range}
use Rattle.toml_values.specs.Ranges.{IsWithin}

-- the rate at a row and a column, counted from 0
abbrev pub entry : List (List ℤ) → ℕ → ℕ → ℤ
entry rows row column = slice_index_or (slice_index_or rows row []) column (pos 0)

-- so many rates in the range
pub record AreRates (count : ℕ) (range : Range) (rates : List ℤ) : Type 0 where
  pub full : length rates ≡ count
  pub within : All (IsWithin range) rates

-- so many rows, each of so many rates in the range
pub record IsMatrix (size : ℕ) (range : Range) (matrix : List (List ℤ)) : Type 0 where
  pub full : length matrix ≡ size
  pub rows : All (AreRates size range) matrix
