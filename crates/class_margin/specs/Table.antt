-- The correlations of the buckets of a class by their places.
-- (ISDA SIMM methodology, aggregation across buckets: delta and vega; curvature, by squares.)
use Rattle.std.specs.Prelude.{ℕ, ◌<◌, length, ℤ}
use Rattle.class_rates.specs.PairSums.WithItself.{with_itself}
use Rattle.class_rates.specs.SimmRules.Bucket.{combined}
use Rattle.class_margin.specs.declared.table.Gamma.{Gamma}
use Rattle.class_margin.specs.declared.table.Gamma.TheVariants as gamma
use Rattle.class_margin.specs.declared.table.Scaling.{Scaling}
use Rattle.class_margin.specs.declared.table.Scaling.TheVariants as scaling
use Rattle.class_margin.specs.names_delta.Combine.{gamma_in, gamma_at}
use Rattle.class_margin.specs.rates_delta.Gamma.{gamma_apart}

-- how many buckets there are
abbrev pub count_of : Gamma → ℕ
count_of (gamma.Even count between) = count
count_of (gamma.Listed params class places) = length places.items

-- of two different places, in millionths
abbrev pub table_at : Gamma → ℕ → ℕ → ℤ
table_at (gamma.Even count between) i j = between.0
table_at (gamma.Listed params class places) i j = gamma_at (gamma_in params.now class) places.items i j

-- the correlation of two different places, by that of the table
abbrev pub scaled_by : Scaling → ℤ → ℕ → ℕ → ℤ
scaled_by scaling.Plain r i j = r
scaled_by scaling.Squared r i j = combined r r
scaled_by (scaling.Concentrated ratios) r i j = gamma_apart r ratios.buckets.now i j

abbrev pub across_at : Scaling → Gamma → ℕ → ℕ → ℤ
across_at way table i j = scaled_by way (table_at table i j) i j

-- and 1 of each with itself
abbrev pub corr_at : Scaling → Gamma → ℕ → ℕ → ℤ
corr_at way table = with_itself (across_at way table)

-- how many buckets of so many it counts
abbrev pub room_of : Scaling → ℕ → ℕ
room_of scaling.Plain count = count
room_of scaling.Squared count = count
room_of (scaling.Concentrated ratios) count = length ratios.buckets.now

-- a place that it counts
abbrev pub IsInside : Scaling → ℕ → Type 0
IsInside scaling.Plain i = Unit {0}
IsInside scaling.Squared i = Unit {0}
IsInside (scaling.Concentrated ratios) i = i < length ratios.buckets.now
