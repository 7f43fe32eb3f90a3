-- The factor of a name in a bucket, by its net, or by what the nets to its volatilities come to.
-- (ISDA SIMM methodology, equity and commodity risk: weights, and concentration by name.)
use Rattle.std.specs.Prelude.{ℕ, List, ℤ, pos, if◌then◌else◌}
use Rattle.measured_bucket.specs.SimmRules.Params.{PricedBucket}
use Rattle.measured_bucket.specs.SimmRules.Risks.{Amount}
use Rattle.measured_bucket.specs.SimmRules.Bucket.{Weighted}
use Rattle.measured_bucket.specs.SimmRules.Curvature.{curved}
use Rattle.measured_bucket.specs.SimmRules.Priced.{weighted_name}
use Rattle.measured_bucket.specs.Risk.{risk_of}
use Rattle.measured_bucket.specs.Vega.{vega_risk}

-- delta
abbrev pub delta_name : PricedBucket → Amount (List ℕ) → Weighted (List ℕ)
delta_name b a = weighted_name (b.terms).weight ((b.terms).thresholds).delta a.of a.amount

-- vega: of a sum in which each tenor counts once, by the historical volatility ratio
abbrev pub vega_name : ℤ → PricedBucket → Amount (List ℕ) → Weighted (List ℕ)
vega_name hvr b a = weighted_name (b.terms).vrw ((b.terms).thresholds).vega a.of (vega_risk hvr b.sigma a.amount)

-- the volatility at which a bucket's names count in curvature: none where the bucket has no curvature
abbrev pub curved_at : PricedBucket → ℤ
curved_at b = if (b.terms).curvature then b.sigma else pos 0

-- curvature: of a sum in which a tenor counts the more, the nearer it is
abbrev pub curved_name : PricedBucket → Amount (List ℕ) → Weighted (List ℕ)
curved_name b a = curved a.of (risk_of (curved_at b) a.amount)
