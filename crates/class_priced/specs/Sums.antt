-- What the nets to the volatilities of a name come to over its tenors.
-- (ISDA SIMM methodology, equity and commodity risk: vega and curvature.)
use Rattle.std.specs.Prelude.{ℕ, List, map, ℤ, ◌*ℤ◌}
use Rattle.std.specs.Borrow.{Bor}
use Rattle.measured_bucket.specs.SimmKinds.declared.full_name.FullName.{FullName}
use Rattle.measured_bucket.specs.SimmRules.Sums.{total_by}
use Rattle.measured_bucket.specs.SimmRules.Risks.{Amount}
use Rattle.measured_bucket.specs.SimmRules.Priced.{NameVolatility, names_of, tenors_of}
use Rattle.measured_bucket.specs.declared.runs.TenorNet.{TenorNet}
use Rattle.measured_bucket.specs.declared.runs.TenorSum.{TenorSum}
use Rattle.measured_bucket.specs.declared.tenor_scale.TenorScale.{TenorScale}
use Rattle.measured_bucket.specs.Scale.{scale_by}
use Rattle.class_priced.specs.declared.names.NameVolatility.{NameVolatility as HeldVolatility}

-- each times what its tenor counts
abbrev pub name_total : TenorScale → List (Amount NameVolatility) → List ℕ → ℤ
name_total scale amounts name = total_by (λ a. scale_by scale a.of *ℤ a.amount) (tenors_of amounts name)

abbrev pub name_totals : TenorScale → List (Amount NameVolatility) → List (Amount (List ℕ))
name_totals scale amounts = map (λ name. record { of = name; amount = name_total scale amounts name }) (names_of amounts)

-- ---- as the code has them

abbrev pub volatility_view : HeldVolatility → NameVolatility
volatility_view v = record { name = v.name.now; tenor = v.tenor }

abbrev pub tenor_view : TenorNet (Bor FullName) → Amount NameVolatility
tenor_view n = record { of = record { name = n.of.now; tenor = n.tenor }; amount = n.net }

abbrev pub name_sum : TenorSum (Bor FullName) → Amount (List ℕ)
name_sum s = record { of = s.of.now; amount = s.sum }

abbrev pub name_sums : List (TenorSum (Bor FullName)) → List (Amount (List ℕ))
name_sums sums = map name_sum sums
