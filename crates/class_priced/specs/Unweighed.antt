-- What the factors of a bucket of equity or of commodities are weighed from.
-- (ISDA SIMM methodology, equity and commodity risk: weighted sensitivities, concentration,
-- curvature risk exposures.)
use Rattle.std.specs.Prelude.{ℕ, List, ℤ}
use Rattle.measured_bucket.specs.SimmRules.Params.{PricedBucket}
use Rattle.measured_bucket.specs.SimmRules.Risks.{Amount}
use Rattle.measured_bucket.specs.Explained.{Unweighed, from_itself, without_group}
use Rattle.measured_bucket.specs.Vega.{vega_from}
use Rattle.class_priced.specs.Weights.{curved_at}

-- a name, by its net
abbrev pub unweighed_name : PricedBucket → Amount (List ℕ) → Unweighed (List ℕ)
unweighed_name b a = record {
  of = a.of;
  from = from_itself (b.terms).weight ((b.terms).thresholds).delta a.amount;
}

-- by what the nets to its volatilities come to: in vega
abbrev pub unweighed_vega : ℤ → PricedBucket → Amount (List ℕ) → Unweighed (List ℕ)
unweighed_vega hvr b a = record {
  of = a.of;
  from = vega_from hvr b.sigma (b.terms).vrw ((b.terms).thresholds).vega a.amount;
}

-- and in curvature
abbrev pub uncurved_name : PricedBucket → Amount (List ℕ) → Unweighed (List ℕ)
uncurved_name b a = record { of = a.of; from = without_group (curved_at b) a.amount }
