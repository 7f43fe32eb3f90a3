-- How much a net counts by its tenor.
-- (ISDA SIMM methodology: vega margin, in which a name's tenors add up; curvature margin, the scaling function.)
use Rattle.std.specs.Prelude.{ℕ, ℤ, pos}
use Rattle.simm_params.specs.SimmKinds.declared.kinds.Tenor.{Tenor}
use Rattle.simm_params.specs.SimmRules.Curvature.{scale_of}
use Rattle.measured_bucket.specs.declared.tenor_scale.TenorScale.{TenorScale}
use Rattle.measured_bucket.specs.declared.tenor_scale.TenorScale.TheVariants as scale

abbrev pub scale_by : TenorScale → Tenor → ℤ
scale_by scale.Even tenor = pos 1
scale_by scale.Curved tenor = scale_of tenor

-- the most that a tenor counts
abbrev pub most : TenorScale → ℕ
most scale.Even = 1
most scale.Curved = 10950
