-- A part of the margin by what its buckets come to.
-- (ISDA SIMM methodology, curvature margin: theta and lambda.)
use Rattle.std.specs.Prelude.{List, ◌==◌, ℤ, pos, ◌+ℤ◌, ◌*ℤ◌, unsigned_abs, if◌then◌else◌}
use Rattle.std.specs.Int.{int_max}
use Rattle.class_rates.specs.MhUnits.Rounding.{up}
use Rattle.class_rates.specs.SimmRules.declared.values.BucketMargin.{BucketMargin}
use Rattle.class_rates.specs.SimmRules.Sums.{total_by}
use Rattle.class_rates.specs.SimmRules.Concentration.{one}
use Rattle.class_rates.specs.SimmRules.Curvature.{lambda}

abbrev pub sum_over : List BucketMargin → ℤ
sum_over values = total_by (λ b. b.sum) values

abbrev pub gross_over : List BucketMargin → ℤ
gross_over values = total_by (λ b. b.gross) values

abbrev pub margin_over : List BucketMargin → ℤ
margin_over values = total_by (λ b. b.k) values

-- of buckets whose risks and whose sizes come to sum and gross, where root is the margin over them
abbrev pub part_by : ℤ → ℤ → ℤ → ℤ → ℤ
part_by base sum gross root =
    if unsigned_abs gross == 0 then pos 0 else int_max (sum +ℤ up (lambda base sum gross *ℤ root) one) (pos 0)

abbrev pub part_over : ℤ → List BucketMargin → ℤ → ℤ
part_over base values root = part_by base (sum_over values) (gross_over values) root
