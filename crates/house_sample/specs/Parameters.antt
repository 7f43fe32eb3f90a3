-- The parameters of the sample: rates in ten-thousandths, the base of the curvature scale in millionths, thresholds in cents.
-- They are numbers of this program's own, as those of examples/toy.toml, and no published calibration.
use Rattle.std.specs.Prelude.{List, [], ◌∷◌, map, Bool, true, false, codes, ℤ, pos}
use Rattle.simm_params.specs.SimmKinds.declared.bucket.Bucket.{Bucket}
use Rattle.simm_params.specs.SimmKinds.declared.bucket.Bucket.TheVariants.{Number, Residual}
use Rattle.simm_params.specs.SimmRules.Params.{BucketTerms, CreditBucket, PricedBucket, CurveWeights, IrParams, FxParams, CreditParams, PricedParams, Params}
use Rattle.simm_params.specs.Fx.{Volatilities}
use Rattle.house_sample.specs.Matrices.{alike, even}

-- ---- interest rates

abbrev pub curves : CurveWeights
curves = record { regular = alike (pos 500000) 12; low = alike (pos 150000) 12; high = alike (pos 1000000) 12 }

abbrev pub rates : IrParams
rates = record {
  low = codes "JPY" ∷ [];
  regular = codes "USD" ∷ codes "EUR" ∷ codes "GBP" ∷ [];
  weights = curves;
  inflation_weight = pos 500000;
  basis_weight = pos 200000;
  rho = even (pos 5000) 12;
  phi = pos 9800;
  inflation_rho = pos 4000;
  basis_rho = pos 100;
  gamma = pos 5000;
  vrw = pos 2000;
  hvr = pos 5000;
  other = record { delta = pos 91000000; vega = pos 1000000000 };
  groups = [];
}

-- ---- foreign exchange

-- the thresholds of pairs of currencies, by the categories of both
abbrev pub pair_thresholds : List (List ℤ)
pair_thresholds =
    let row = pos 1000000000 ∷ pos 1000000000 ∷ pos 1000000000 ∷ [] in
    row ∷ row ∷ row ∷ []

abbrev pub volatilities : Volatilities
volatilities = record {
  thresholds = pair_thresholds;
  sigmas = (pos 162000, pos 162000, pos 162000);
  vrw = pos 4000;
  hvr = pos 6000;
  rho = pos 5000;
}

abbrev pub exchange : FxParams
exchange = record {
  high = codes "BRL" ∷ [];
  regular_weight = pos 74000;
  high_weight = pos 100000;
  regular_rho = pos 5000;
  mixed_rho = pos 5000;
  high_rho = pos 5000;
  first = [];
  second = [];
  first_threshold = pos 10000000000;
  second_threshold = pos 10000000000;
  third_threshold = pos 10000000000;
  vega_threshold = pair_thresholds;
  regular_sigma = pos 162000;
  mixed_sigma = pos 162000;
  high_sigma = pos 162000;
  vrw = pos 4000;
  hvr = pos 6000;
  vol_rho = pos 5000;
}

-- ---- the classes that have buckets

-- each bucket has the same thresholds and the same vega weight
abbrev pub terms : ℤ → ℤ → Bucket → Bool → BucketTerms
terms weight rho id curvature = record {
  id = id;
  weight = weight;
  thresholds = record { delta = pos 100000000; vega = pos 1000000000 };
  rho = rho;
  vrw = pos 5000;
  curvature = curvature;
}

abbrev pub credit_bucket : ℤ → ℤ → ℤ → Bucket → CreditBucket
credit_bucket weight rho same id = record { terms = terms weight rho id true; same = same }

abbrev pub credit : ℤ → ℤ → ℤ → List Bucket → List (List ℤ) → CreditParams
credit weight rho same ids gamma = record { buckets = map (credit_bucket weight rho same) ids; gamma = gamma }

abbrev pub qualifying : CreditParams
qualifying = credit (pos 100000) (pos 4000) (pos 5000) (Number 1 ∷ Number 2 ∷ Residual ∷ []) (even (pos 3000) 2)

abbrev pub non_qualifying : CreditParams
non_qualifying = credit (pos 1000000) (pos 3000) (pos 6000) (Number 1 ∷ Residual ∷ []) (even (pos 3000) 1)

abbrev pub priced_bucket : ℤ → ℤ → Bucket → Bool → PricedBucket
priced_bucket weight sigma id curvature = record { terms = terms weight (pos 5000) id curvature; sigma = sigma }

-- the second bucket of equity has no curvature
abbrev pub equity : PricedParams
equity =
    let bucket = priced_bucket (pos 300000) (pos 500000) in
    record { buckets = bucket (Number 1) true ∷ bucket (Number 2) false ∷ bucket Residual true ∷ []; hvr = pos 6000; gamma = even (pos 3000) 2 }

abbrev pub commodity : PricedParams
commodity =
    let bucket = priced_bucket (pos 200000) (pos 400000) in
    record { buckets = bucket (Number 1) true ∷ bucket (Number 2) true ∷ []; hvr = pos 6000; gamma = even (pos 3000) 2 }

-- ---- all of them

abbrev pub sample_params : Params
sample_params = record {
  calculation_currency = codes "USD";
  lambda_base = pos 5634897;
  psi = even (pos 5000) 6;
  ir = rates;
  fx = exchange;
  credit_q = qualifying;
  credit_nq = non_qualifying;
  equity = equity;
  commodity = commodity;
  base_weight = pos 100000;
  base_rho = pos 3000;
}
