-- What the parameters of classes that have buckets keep.
use Rattle.std.specs.Prelude.{◌<◌, ◌≤◌, length, map}
use Rattle.std.specs.List.{All, count_by}
use Rattle.simm_rules.specs.Params.{BucketTerms, CreditBucket, PricedBucket, CreditParams, PricedParams}
use Rattle.simm_params.specs.Ranges.{weights, correlations, sigmas, vega_weights, hvrs, IsWithin}
use Rattle.simm_params.specs.Thresholds.{AreThresholds}
use Rattle.simm_params.specs.Matrix.{IsMatrix}
use Rattle.simm_params.specs.Buckets.{AreInOrder, is_numbered}

-- ---- a bucket: each number is in its range

pub record AreTerms (t : BucketTerms) : Type 0 where
  pub weight : IsWithin weights t.weight
  pub thresholds : AreThresholds t.thresholds
  pub rho : IsWithin correlations t.rho
  pub vrw : IsWithin vega_weights t.vrw

pub record IsCreditBucket (b : CreditBucket) : Type 0 where
  pub terms : AreTerms b.terms
  pub same : IsWithin correlations b.same

pub record IsPricedBucket (b : PricedBucket) : Type 0 where
  pub terms : AreTerms b.terms
  pub sigma : IsWithin sigmas b.sigma

-- ---- a class: one bucket at least and 65 at most, in order, and a matrix with a row and a column for each numbered one

pub record IsRangedCredit (c : CreditParams) : Type 0 where
  pub some : 0 < length c.buckets
  pub few : length c.buckets ≤ 65
  pub in_order : AreInOrder (map (λ b. b.terms.id) c.buckets)
  pub buckets : All IsCreditBucket c.buckets
  pub gamma : IsMatrix (count_by (λ b. is_numbered b.terms.id) c.buckets) correlations c.gamma

pub record IsRangedPriced (c : PricedParams) : Type 0 where
  pub some : 0 < length c.buckets
  pub few : length c.buckets ≤ 65
  pub in_order : AreInOrder (map (λ b. b.terms.id) c.buckets)
  pub buckets : All IsPricedBucket c.buckets
  pub hvr : IsWithin hvrs c.hvr
  pub gamma : IsMatrix (count_by (λ b. is_numbered b.terms.id) c.buckets) correlations c.gamma
