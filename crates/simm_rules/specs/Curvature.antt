-- Curvature margin: from volatility sensitivities, by how far away their tenors are.
-- (ISDA SIMM methodology, curvature margin: the scaling function, the curvature risk of a factor, theta and lambda.)
use Rattle.std.specs.Prelude.{◌*◌, ◌^◌, List, ◌==◌, ℤ, pos, ◌+ℤ◌, ◌-ℤ◌, ◌*ℤ◌, unsigned_abs, if◌then◌else◌}
use Rattle.std.specs.Int.{int_min, int_max}
use Rattle.simm_kinds.specs.MhUnits.Rounding.{up, away}
use Rattle.simm_kinds.specs.declared.kinds.Tenor.{Tenor}
use Rattle.simm_kinds.specs.declared.kinds.Tenor.TheVariants as tenor
use Rattle.simm_kinds.specs.declared.bucket.Bucket.{Bucket}
use Rattle.simm_kinds.specs.Order.{same_bucket}
use Rattle.simm_rules.specs.Risks.{Amount}
use Rattle.simm_rules.specs.Sums.{total_by}
use Rattle.simm_rules.specs.Concentration.{one}
use Rattle.simm_rules.specs.Bucket.{Weighted}
use Rattle.simm_rules.specs.Across.{Part, outer, numbered, residual, gamma_squared}

-- half of 14 days over the tenor, and at most a half, in 21,900ths; twelve months have 365 days
abbrev pub scale_of : Tenor → ℤ
scale_of tenor.W2 = pos 10950
scale_of tenor.M1 = pos 5040
scale_of tenor.M3 = pos 1680
scale_of tenor.M6 = pos 840
scale_of tenor.Y1 = pos 420
scale_of tenor.Y2 = pos 210
scale_of tenor.Y3 = pos 140
scale_of tenor.Y5 = pos 84
scale_of tenor.Y10 = pos 42
scale_of tenor.Y15 = pos 28
scale_of tenor.Y20 = pos 21
scale_of tenor.Y30 = pos 14

-- the curvature risk of a factor: its volatility, in ten-thousandths, times its amounts, each scaled by its tenor; away from zero
abbrev pub curvature_risk : ℤ → List (Amount Tenor) → ℤ
curvature_risk sigma amounts = away (total_by (λ a. scale_of a.of *ℤ sigma *ℤ a.amount) amounts) (pos (21900 * 10 ^ 4))

-- a factor with its curvature risk, which no concentration scales
abbrev pub curved : {A : Type 0} → A → ℤ → Weighted A
curved of risk = record { of = of; w = risk; cr = one }

-- the sum of the risks where it is below 0, and else 0
abbrev pub shortfall : ℤ → ℤ
shortfall sum = int_min sum (pos 0)

-- lambda, in millionths and upwards: base * (1 + theta) - theta, theta being the shortfall of the sum of all risks over the
-- sum of their sizes, which is not rounded by itself. It is the base where the sum is not below 0, and 1 where no risk is above 0.
abbrev pub lambda : ℤ → ℤ → ℤ → ℤ
lambda base sum gross = up (base *ℤ (gross +ℤ shortfall sum) -ℤ one *ℤ shortfall sum) gross

-- a part of the margin, where root is the margin over its buckets: the sum of its risks and lambda times root, and at least
-- 0; 0 where all of its risks are 0
abbrev pub curvature_part : {A : Type 0} → ℤ → List (Part A) → ℤ → ℤ
curvature_part base parts root =
    if unsigned_abs (gross_over parts) == 0 then pos 0
    else int_max (sum_over parts +ℤ up (lambda base (sum_over parts) (gross_over parts) *ℤ root) one) (pos 0)
  where
    sum_over : {A : Type 0} → List (Part A) → ℤ
    sum_over parts = total_by (λ b. (b.value).sum) parts

    gross_over : {A : Type 0} → List (Part A) → ℤ
    gross_over parts = total_by (λ b. (b.value).gross) parts

-- the part of the numbered buckets, and that of the residual one
abbrev pub curvature_over : ℤ → List Bucket → List (List ℤ) → List (Part Bucket) → ℤ
curvature_over base listed gamma parts =
    curvature_part base (numbered parts) (outer same_bucket (gamma_squared listed gamma) (numbered parts))
    +ℤ curvature_part base (residual parts) (total_by (λ b. (b.value).k) (residual parts))
