-- The concentration thresholds of a group or a bucket: of delta, and then of vega.
use Rattle.simm_rules.specs.Params.{Thresholds}
use Rattle.simm_params.specs.Ranges.{thresholds, IsWithin}

-- both are in their range
pub record AreThresholds (t : Thresholds) : Type 0 where
  pub delta : IsWithin thresholds t.delta
  pub vega : IsWithin thresholds t.vega
