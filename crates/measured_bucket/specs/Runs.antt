-- Nets to volatilities of which those of one thing stand together, by tenor: what they come to over its tenors.
-- (ISDA SIMM methodology, vega and curvature: the tenors of a name, or of a pair of currencies, are one risk factor.)
use Rattle.std.specs.Prelude.{◌*◌, ◌^◌, ◌≤◌, List, [], ◌∷◌, map, length, sum_by, Bool, if◌then◌else◌, ℤ, pos, ◌+ℤ◌, ◌*ℤ◌, ◌≤ℤ◌, unsigned_abs}
use Rattle.std.specs.declared.cmp.Ordering.{Ordering}
use Rattle.std.specs.List.{AllByRecursion}
use Rattle.std.specs.List.Sorted.{IsStrictlySortedBy}
use Rattle.simm_params.specs.SimmRules.Risks.{Amount}
use Rattle.simm_params.specs.SimmRules.Gross.{size_by}
use Rattle.measured_bucket.specs.declared.tenor_scale.TenorScale.{TenorScale}
use Rattle.measured_bucket.specs.declared.runs.TenorNet.{TenorNet}
use Rattle.measured_bucket.specs.declared.runs.TenorSum.{TenorSum}
use Rattle.measured_bucket.specs.Scale.{scale_by, most}
use Rattle.measured_bucket.specs.Values.{IsInRange}

-- ---- amounts, of which those to one thing stand together, as a sum for each

abbrev pub plus : {A : Type 0} → Amount A → Amount A → Amount A
plus a b = record { of = b.of; amount = a.amount +ℤ b.amount }

-- the sums, where the amount before is the first
abbrev pub summed_from : {A : Type 0} → (A → A → Bool) → Amount A → List (Amount A) → List (Amount A)
summed_from same before [] = before ∷ []
summed_from same before (a ∷ rest) = if same before.of a.of then summed_from same (plus before a) rest else before ∷ summed_from same a rest

abbrev pub summed : {A : Type 0} → (A → A → Bool) → List (Amount A) → List (Amount A)
summed same [] = []
summed same (a ∷ rest) = summed_from same a rest

-- ---- in range

-- Nets to volatilities: no more than 2,000, whose sizes times the volatilities come to at most 10^13 cents, and whose sizes to no more
-- than those of 200,000 amounts that a batch can have, also where a volatility is 0.
pub record AreRunsInRange {V : Type 0} (sigma : V → ℤ) (amounts : List (Amount V)) : Type 0 where
  pub weighed : IsInRange sigma amounts
  pub sizes : sum_by (λ a. unsigned_abs a.amount) amounts ≤ 2 * 10 ^ 20

-- Sums of such nets, each times what its tenor counts: those to different things in order, no more than 2,000, and no larger than the
-- nets are, each counted in full.
pub record AreTotals {K : Type 0} (cmp : K → K → Ordering) (scale : TenorScale) (sigma : K → ℤ) (sums : List (Amount K)) : Type 0 where
  pub ascends : IsStrictlySortedBy cmp (map (λ a. a.of) sums)
  pub few : length sums ≤ 2000
  pub weighed : size_by sigma sums ≤ℤ pos (10 ^ 17 * most scale)
  pub each : AllByRecursion (λ a. unsigned_abs a.amount ≤ 2 * 10 ^ 20 * most scale) sums

-- ---- as the code has them

-- a net, times what its tenor counts
abbrev pub scaled_net : {K : Type 0} → TenorScale → TenorNet K → Amount K
scaled_net scale n = record { of = n.of; amount = scale_by scale n.tenor *ℤ n.net }

abbrev pub sum_view : {K : Type 0} → TenorSum K → Amount K
sum_view s = record { of = s.of; amount = s.sum }
