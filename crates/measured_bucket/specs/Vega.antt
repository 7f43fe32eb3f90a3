-- Vega risks of names and of pairs of currencies, each of which is a concentration group by itself.
-- (ISDA SIMM methodology, equity, commodity and foreign exchange risk: vega.)
use Rattle.std.specs.Prelude.{◌^◌, ℤ, pos, ◌*ℤ◌}
use Rattle.simm_params.specs.MhUnits.Rounding.{away}
use Rattle.weighted_bucket.specs.declared.weighed.Weighed.{Weighed}
use Rattle.measured_bucket.specs.declared.weighing.Weighing.{Weighing}
use Rattle.measured_bucket.specs.Alone.{weighed_alone}
use Rattle.measured_bucket.specs.Explained.{from_itself}

-- the vega risk of a net change for one unit of volatility: the ratio times the volatility times the net
abbrev pub vega_risk : ℤ → ℤ → ℤ → ℤ
vega_risk hvr sigma net = away (hvr *ℤ sigma *ℤ net) (pos (10 ^ 8))

-- weighed by this weight and threshold
abbrev pub vega_alone : ℤ → ℤ → ℤ → ℤ → ℤ → Weighed
vega_alone hvr sigma weight threshold net = weighed_alone weight threshold (vega_risk hvr sigma net)

-- what it is weighed from
abbrev pub vega_from : ℤ → ℤ → ℤ → ℤ → ℤ → Weighing
vega_from hvr sigma weight threshold net = from_itself weight threshold (vega_risk hvr sigma net)
