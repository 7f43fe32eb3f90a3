-- Lists and square matrices of rates in the file, tested place by place, and row by row. A path is given by its words; places
-- count from 1.
use Rattle.std.specs.Prelude.{ℕ, List, [], ◌∷◌, ◌++◌, Option, Some, Result, ℤ, decimal}
use Rattle.toml.specs.Data.{Data}
use Rattle.simm_params.specs.TomlValues.declared.range.Range.{Range}
use Rattle.simm_params.specs.TomlValues.declared.fault.ValueFault.{ValueFault}
use Rattle.simm_params.specs.TomlValues.Paths.{joined}
use Rattle.simm_params.specs.TomlValues.Answers.{◌>>=◌}
use Rattle.simm_params.specs.TomlValues.Values.{array_of_length, rate_of}
use Rattle.simm_params.specs.TomlValues.Places.{each_of}

-- a rate in the range, at a place of the array at a path
abbrev pub rate_at : List (List ℕ) → Range → ℕ → List ℤ → Data → Result ℤ ValueFault
rate_at path range number before value = rate_of (joined (path ++ decimal number ∷ [])) range (Some value)

-- an array of so many rates in the range
unfoldable pub rates_of : List (List ℕ) → ℕ → Range → Option Data → Result (List ℤ) ValueFault
rates_of path count range value = do
  places ← array_of_length (joined path) count value
  each_of (rate_at path range) 1 [] places

-- a row of so many rates in the range, at a place of the array at a path
abbrev pub row_at : List (List ℕ) → ℕ → Range → ℕ → List (List ℤ) → Data → Result (List ℤ) ValueFault
row_at path size range number before value = rates_of (path ++ decimal number ∷ []) size range (Some value)

-- an array of so many rows
unfoldable pub matrix_of : List (List ℕ) → ℕ → Range → Option Data → Result (List (List ℤ)) ValueFault
matrix_of path size range value = do
  places ← array_of_length (joined path) size value
  each_of (row_at path size range) 1 [] places
