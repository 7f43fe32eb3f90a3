-- The ranges of thresholds of currency pairs.
use Rattle.std.specs.Prelude.{List, ℤ}
use Rattle.std.specs.List.{AllByRecursion}
use Rattle.simm_params.specs.Ranges.{thresholds, IsWithin}

-- each threshold of a matrix is in its range
abbrev pub ArePairThresholds : List (List ℤ) → Type 0
ArePairThresholds rows = AllByRecursion (AllByRecursion (IsWithin thresholds)) rows
