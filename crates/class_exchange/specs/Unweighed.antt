-- What the factors of foreign exchange are weighed from.
-- (ISDA SIMM methodology, foreign exchange risk: weighted sensitivities, concentration, curvature
-- risk exposures.)
use Rattle.std.specs.Prelude.{ℕ, List}
use Rattle.measured_bucket.specs.SimmKinds.Pair.{Pair}
use Rattle.measured_bucket.specs.SimmRules.Params.{Params}
use Rattle.measured_bucket.specs.SimmRules.Risks.{Amount}
use Rattle.measured_bucket.specs.SimmRules.ForeignExchange.{fx_weight, fx_threshold}
use Rattle.measured_bucket.specs.SimmRules.ForeignExchange.{fx_sigma, fx_vega_threshold}
use Rattle.measured_bucket.specs.Explained.{Unweighed, from_itself, without_group}
use Rattle.measured_bucket.specs.Vega.{vega_from}

-- a currency, by its net
abbrev pub unweighed_currency : Params → Amount (List ℕ) → Unweighed (List ℕ)
unweighed_currency p a = record {
  of = a.of;
  from = from_itself (fx_weight p a.of) (fx_threshold p a.of) a.amount;
}

-- a pair, by what its volatilities come to: in vega
abbrev pub unweighed_pair : Params → Amount Pair → Unweighed Pair
unweighed_pair p sum = record {
  of = sum.of;
  from = vega_from p.fx.hvr (fx_sigma p sum.of) p.fx.vrw (fx_vega_threshold p sum.of) sum.amount;
}

-- and in curvature
abbrev pub uncurved_pair : Params → Amount Pair → Unweighed Pair
uncurved_pair p sum = record { of = sum.of; from = without_group (fx_sigma p sum.of) sum.amount }
