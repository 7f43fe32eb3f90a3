-- The correlations of currencies by the places of their buckets.
-- (ISDA SIMM methodology, interest rate risk: the correlation of two currencies, times the ratio of their concentrations.)
use Rattle.std.specs.Prelude.{ℕ, List, map, ℤ}
use Rattle.class_rates.specs.SimmRules.declared.values.BucketMargin.{BucketMargin}
use Rattle.class_rates.specs.PairSums.WithItself.{with_itself}
use Rattle.class_rates.specs.WeightedBucket.declared.scaling.Scaling.TheVariants as scaling
use Rattle.class_rates.specs.WeightedBucket.declared.weighed.Weighed.{Weighed}
use Rattle.class_rates.specs.WeightedBucket.Correlated.{scaled_at}

-- a bucket as one factor, of its sum held between its margins and its concentration factor
abbrev pub as_factor : BucketMargin → Weighed
as_factor b = record { w = b.s; cr = b.cr }

-- of two different places: gamma, times the ratio of both concentration factors
abbrev pub gamma_apart : ℤ → List BucketMargin → ℕ → ℕ → ℤ
gamma_apart gamma buckets = scaled_at scaling.Concentrated (map as_factor buckets) (λ i j. gamma)

abbrev pub gamma_at : ℤ → List BucketMargin → ℕ → ℕ → ℤ
gamma_at gamma buckets = with_itself (gamma_apart gamma buckets)
