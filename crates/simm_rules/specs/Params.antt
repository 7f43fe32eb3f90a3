-- The parameters of the margin rule, as values. Rates are in ten-thousandths, lambda_base in millionths, thresholds in cents.
-- A list over tenors has a place for each of the twelve, in their order; a matrix is a list of its rows.
-- (ISDA SIMM methodology: risk weights, correlations, concentration thresholds, historical volatility ratios, all from the file.)
use Rattle.std.specs.Prelude.{ℕ, List, Bool, ℤ}
use Rattle.simm_kinds.specs.declared.bucket.Bucket.{Bucket}

-- the concentration thresholds of delta and of vega
pub record Thresholds : Type 0 where
  pub delta : ℤ
  pub vega : ℤ

-- a concentration group of currencies
pub record CurrencyGroup : Type 0 where
  pub currencies : List (List ℕ)
  pub thresholds : Thresholds

-- a weight a tenor, by the volatility category of the currency
pub record CurveWeights : Type 0 where
  pub regular : List ℤ
  pub low : List ℤ
  pub high : List ℤ

-- interest rates: currencies of low and of regular volatility (all others are of high volatility), the weights of curves,
-- of inflation and of cross-currency basis, the correlations of tenors, of sub-curves, with inflation, with basis, and of
-- two currencies, the vega weight, the historical volatility ratio, the thresholds of the groups and of all other currencies
pub record IrParams : Type 0 where
  pub low : List (List ℕ)
  pub regular : List (List ℕ)
  pub weights : CurveWeights
  pub inflation_weight : ℤ
  pub basis_weight : ℤ
  pub rho : List (List ℤ)
  pub phi : ℤ
  pub inflation_rho : ℤ
  pub basis_rho : ℤ
  pub gamma : ℤ
  pub vrw : ℤ
  pub hvr : ℤ
  pub other : Thresholds
  pub groups : List CurrencyGroup

-- foreign exchange: currencies of high volatility, the weights of the two volatility categories, the correlations of
-- two currencies by their categories, the currencies of the first two concentration categories (all others are in the
-- third), and the thresholds of the three; the vega thresholds of a pair by its two categories, its volatility by the two
-- volatility categories, the vega weight, the historical volatility ratio, the correlation of two pairs
pub record FxParams : Type 0 where
  pub high : List (List ℕ)
  pub regular_weight : ℤ
  pub high_weight : ℤ
  pub regular_rho : ℤ
  pub mixed_rho : ℤ
  pub high_rho : ℤ
  pub first : List (List ℕ)
  pub second : List (List ℕ)
  pub first_threshold : ℤ
  pub second_threshold : ℤ
  pub third_threshold : ℤ
  pub vega_threshold : List (List ℤ)
  pub regular_sigma : ℤ
  pub mixed_sigma : ℤ
  pub high_sigma : ℤ
  pub vrw : ℤ
  pub hvr : ℤ
  pub vol_rho : ℤ

-- what the file says of a bucket in each of the four classes that have buckets: its weight, thresholds, the correlation of
-- two names in it, its vega weight, and whether it has curvature
pub record BucketTerms : Type 0 where
  pub id : Bucket
  pub weight : ℤ
  pub thresholds : Thresholds
  pub rho : ℤ
  pub vrw : ℤ
  pub curvature : Bool

-- a bucket of credit, with the correlation of one name's factors
pub record CreditBucket : Type 0 where
  pub terms : BucketTerms
  pub same : ℤ

-- a bucket of equity or commodities, with its volatility
pub record PricedBucket : Type 0 where
  pub terms : BucketTerms
  pub sigma : ℤ

-- a credit class: its buckets in order, and the correlations of the numbered ones
pub record CreditParams : Type 0 where
  pub buckets : List CreditBucket
  pub gamma : List (List ℤ)

-- equity or commodities: also the historical volatility ratio
pub record PricedParams : Type 0 where
  pub buckets : List PricedBucket
  pub hvr : ℤ
  pub gamma : List (List ℤ)

-- all of them: the calculation currency, the base of the curvature scale, the correlations of the risk classes in their
-- order, each class's, and the weight and correlation of base correlations
pub record Params : Type 0 where
  pub calculation_currency : List ℕ
  pub lambda_base : ℤ
  pub psi : List (List ℤ)
  pub ir : IrParams
  pub fx : FxParams
  pub credit_q : CreditParams
  pub credit_nq : CreditParams
  pub equity : PricedParams
  pub commodity : PricedParams
  pub base_weight : ℤ
  pub base_rho : ℤ
