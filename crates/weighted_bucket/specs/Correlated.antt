-- The correlations of the factors of a bucket, made of the parameters' correlations of two different factors.
-- (ISDA SIMM methodology: delta and vega margin, correlations times the ratio of concentrations; curvature margin, squared
-- correlations.)
use Rattle.std.specs.Prelude.{◌≡◌, ℕ, ◌<◌, List, length, slice_index_or, ℤ, pos}
use Rattle.concentration.specs.SimmRules.Concentration.{ratio}
use Rattle.concentration.specs.SimmRules.Bucket.{combined}
use Rattle.pair_sum.specs.WithItself.{with_itself}
use Rattle.weighted_bucket.specs.declared.scaling.Scaling.{Scaling}
use Rattle.weighted_bucket.specs.declared.scaling.Scaling.TheVariants as scaling
use Rattle.weighted_bucket.specs.declared.weighed.Weighed.{Weighed}

-- no weight, and a concentration of 1
abbrev pub no_factor : Weighed
no_factor = record { w = pos 0; cr = record { 0 = pos 1000000 } }

-- the concentration factor of the factor at a place
abbrev pub cr_at : List Weighed → ℕ → ℤ
cr_at factors i = ((slice_index_or factors i no_factor).cr).0

-- all factors have the same concentration factor
abbrev pub ShareConcentration : List Weighed → Type 0
ShareConcentration factors = (i j : ℕ) → i < length factors → j < length factors → cr_at factors i ≡ cr_at factors j

-- made of rho, of two different factors with the concentration factors a and b
abbrev pub scaled : Scaling → ℤ → ℤ → ℤ → ℤ
scaled scaling.Concentrated rho a b = combined rho (ratio a b)
scaled scaling.Plain rho a b = rho
scaled scaling.Squared rho a b = combined rho rho

-- of the factors at two places, where they are different
abbrev pub scaled_at : Scaling → List Weighed → (ℕ → ℕ → ℤ) → ℕ → ℕ → ℤ
scaled_at way factors rho i j = scaled way (rho i j) (cr_at factors i) (cr_at factors j)

-- of the factors at any two places: 1 of a factor with itself
abbrev pub correlation : Scaling → List Weighed → (ℕ → ℕ → ℤ) → ℕ → ℕ → ℤ
correlation way factors rho = with_itself (scaled_at way factors rho)
