-- The two concentration thresholds: the key of each, and the weight that it stands beside.
use Rattle.std.specs.Prelude.{ℕ, List, ℤ, pos, codes}
use Rattle.simm_rules.specs.Params.{Thresholds}
use Rattle.simm_params.specs.declared.thresholds.ThresholdKind.{ThresholdKind}
use Rattle.simm_params.specs.declared.thresholds.ThresholdKind.TheVariants.{Delta, Vega}

abbrev pub threshold_key : ThresholdKind → List ℕ
threshold_key Delta = codes "threshold"
threshold_key Vega = codes "vega_threshold"

abbrev pub threshold_in : ThresholdKind → Thresholds → ℤ
threshold_in Delta t = t.delta
threshold_in Vega t = t.vega

-- a delta threshold stands beside the weight of delta, and a vega threshold beside 1
abbrev pub weight_beside : ThresholdKind → ℤ → ℤ
weight_beside Delta weight = weight
weight_beside Vega weight = pos 10000
