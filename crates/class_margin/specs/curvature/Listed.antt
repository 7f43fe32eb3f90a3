-- The correlations of the buckets that the file lists, for curvature.
-- (ISDA SIMM methodology, curvature margin: squared correlations across buckets.)
use Rattle.std.specs.Prelude.{ℕ, List, ℤ}
use Rattle.class_rates.specs.SimmRules.Bucket.{combined}
use Rattle.class_margin.specs.names_delta.Combine.{gamma_at}

-- the correlation of the buckets at two places of a list, each by its place among those that the file lists, squared
abbrev pub squared_at : List (List ℤ) → List ℕ → ℕ → ℕ → ℤ
squared_at gamma places i j = combined (gamma_at gamma places i j) (gamma_at gamma places i j)
