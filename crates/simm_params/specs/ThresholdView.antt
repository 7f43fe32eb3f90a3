-- The values of thresholds.
use Rattle.simm_rules.specs.Params.{Thresholds}
use Rattle.simm_params.specs.declared.thresholds.Thresholds.{Thresholds as Held}

abbrev pub thresholds_view : Held → Thresholds
thresholds_view t = record { delta = t.delta; vega = t.vega }
