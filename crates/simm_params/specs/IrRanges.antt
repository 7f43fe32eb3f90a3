-- The ranges of the weights of curves.
use Rattle.simm_rules.specs.Params.{CurveWeights}
use Rattle.simm_params.specs.Ranges.{weights}
use Rattle.simm_params.specs.Matrix.{AreRates}

-- twelve weights each
pub record AreCurves (w : CurveWeights) : Type 0 where
  pub regular : AreRates 12 weights w.regular
  pub low : AreRates 12 weights w.low
  pub high : AreRates 12 weights w.high
