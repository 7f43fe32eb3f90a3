-- What follows at each currency and at each bucket: weights beside thresholds, and correlations by place.
use Rattle.std.specs.Prelude.{◌≡◌, ℕ, ◌≤◌, false, List, ℤ, pos, unsigned_abs}
use Rattle.std.specs.List.{All}
use Rattle.simm_rules.specs.Params.{BucketTerms, CreditBucket, PricedBucket, CreditParams, PricedParams, Params}
use Rattle.simm_rules.specs.Lookups.{at_row}
use Rattle.simm_rules.specs.Risks.{Rate}
use Rattle.simm_rules.specs.Rates.{is_basis, rate_weight, rate_thresholds}
use Rattle.simm_params.specs.Ranges.{weights, correlations, sigmas, vega_weights, hvrs, IsWithin}
use Rattle.simm_params.specs.Facts.{IsWeighed}

-- ---- correlations

-- of a row and a column, also where the matrix has no such place: they do not depend on which comes first, and are at most 1 in size
pub record AreCorrelations (matrix : List (List ℤ)) : Type 0 where
  pub symmetric : (row column : ℕ) → at_row matrix row column ≡ at_row matrix column row
  pub size : (row column : ℕ) → unsigned_abs (at_row matrix row column) ≤ 10000

-- ---- a currency

-- its curves and its inflation have the delta threshold of its group; the weight of its basis is bounded; a vega threshold stands
-- beside 1
pub record AreRatesWeighed (p : Params) (currency : List ℕ) : Type 0 where
  pub delta : (rate : Rate) → is_basis rate ≡ false → IsWeighed (rate_weight p (record { currency = currency; rate = rate })) (rate_thresholds p currency).delta
  pub weight : (rate : Rate) → IsWithin weights (rate_weight p (record { currency = currency; rate = rate }))
  pub vega : IsWeighed (pos 10000) (rate_thresholds p currency).vega

-- ---- a bucket

-- the weight beside the delta threshold, 1 beside the vega threshold, and the other rates in their ranges
pub record AreWeighedTerms (t : BucketTerms) : Type 0 where
  pub delta : IsWeighed t.weight t.thresholds.delta
  pub vega : IsWeighed (pos 10000) t.thresholds.vega
  pub rho : IsWithin correlations t.rho
  pub vrw : IsWithin vega_weights t.vrw

pub record IsWeighedCredit (b : CreditBucket) : Type 0 where
  pub terms : AreWeighedTerms b.terms
  pub same : IsWithin correlations b.same

pub record IsWeighedPriced (b : PricedBucket) : Type 0 where
  pub terms : AreWeighedTerms b.terms
  pub sigma : IsWithin sigmas b.sigma

-- ---- a class that has buckets

pub record AreWeighedCredit (c : CreditParams) : Type 0 where
  pub buckets : All IsWeighedCredit c.buckets
  pub gamma : AreCorrelations c.gamma

pub record AreWeighedPriced (c : PricedParams) : Type 0 where
  pub buckets : All IsWeighedPriced c.buckets
  pub hvr : IsWithin hvrs c.hvr
  pub gamma : AreCorrelations c.gamma
