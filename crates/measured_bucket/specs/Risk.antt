-- The curvature risk of a factor by the sum of its nets.
-- (ISDA SIMM methodology, curvature margin: the curvature risk exposure.)
use Rattle.std.specs.Prelude.{◌*◌, ◌^◌, ℤ, pos, ◌*ℤ◌}
use Rattle.simm_params.specs.MhUnits.Rounding.{away}
use Rattle.simm_params.specs.SimmRules.Concentration.{one}
use Rattle.weighted_bucket.specs.declared.weighed.Weighed.{Weighed}

-- of a sum of nets, each times what its tenor counts, in 21,900ths
abbrev pub risk_of : ℤ → ℤ → ℤ
risk_of sigma sum = away (sigma *ℤ sum) (pos (21900 * 10 ^ 4))

abbrev pub curved_by : ℤ → ℤ → Weighed
curved_by sigma sum = record { w = risk_of sigma sum; cr = record { 0 = one } }
