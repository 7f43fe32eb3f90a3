-- Foreign exchange: all currencies are one bucket, and so are all pairs of them.
-- (ISDA SIMM methodology, foreign exchange risk: weights and correlations by volatility category, concentration by category;
-- vega with the historical volatility ratio; curvature.)
use Rattle.std.specs.Prelude.{ℕ, ◌^◌, List, [], ◌∷◌, map, Option, Some, None, Bool, ◌&&◌, ◌||◌, not, ℤ, pos, ◌+ℤ◌, ◌*ℤ◌, if◌then◌else◌}
use Rattle.std.specs.List.{filter}
use Rattle.simm_kinds.specs.MhUnits.Rounding.{away}
use Rattle.simm_kinds.specs.declared.kinds.Tenor.{Tenor}
use Rattle.simm_kinds.specs.declared.kinds.BucketId.{BucketId}
use Rattle.simm_kinds.specs.declared.kinds.BucketId.TheVariants as bucket_id
use Rattle.simm_kinds.specs.Pair.{Pair}
use Rattle.simm_kinds.specs.Order.{same_name, pair_cmp, same_pair}
use Rattle.simm_rules.specs.declared.values.BucketMargin.{BucketMargin}
use Rattle.simm_rules.specs.Params.{Params}
use Rattle.simm_rules.specs.Lookups.{is_listed, at_row, six}
use Rattle.simm_rules.specs.Sums.{total_by, different}
use Rattle.simm_rules.specs.Net.{Sensitivity}
use Rattle.simm_rules.specs.Risks.{Risk, Of_rate, Of_rate_volatility, Of_credit, Of_credit_volatility, Of_base_correlation, Of_price, Of_price_volatility, Of_currency, Of_pair_volatility, Amount, select}
use Rattle.simm_rules.specs.Concentration.{one, cr}
use Rattle.simm_rules.specs.Bucket.{Weighted, weighted_value, concentrated, squared, bucket_value}
use Rattle.simm_rules.specs.Across.{Part}
use Rattle.simm_rules.specs.Curvature.{curvature_risk, curved, curvature_part}

-- ---- which sensitivities

abbrev pub as_currency : Risk → Option (List ℕ)
as_currency (Of_rate currency rate) = None
as_currency (Of_rate_volatility currency v) = None
as_currency (Of_credit class b point) = None
as_currency (Of_credit_volatility class b point) = None
as_currency (Of_base_correlation index) = None
as_currency (Of_price class b name) = None
as_currency (Of_price_volatility class b name tenor) = None
as_currency (Of_currency currency) = Some currency
as_currency (Of_pair_volatility pair tenor) = None

-- the volatility of a pair at a tenor
pub record PairVolatility : Type 0 where
  pub pair : Pair
  pub tenor : Tenor

abbrev pub as_pair_volatility : Risk → Option PairVolatility
as_pair_volatility (Of_rate currency rate) = None
as_pair_volatility (Of_rate_volatility currency v) = None
as_pair_volatility (Of_credit class b point) = None
as_pair_volatility (Of_credit_volatility class b point) = None
as_pair_volatility (Of_base_correlation index) = None
as_pair_volatility (Of_price class b name) = None
as_pair_volatility (Of_price_volatility class b name tenor) = None
as_pair_volatility (Of_currency currency) = None
as_pair_volatility (Of_pair_volatility pair tenor) = Some (record { pair = pair; tenor = tenor })

-- ---- what the parameters say

-- the currency is of high volatility
abbrev pub is_high : Params → List ℕ → Bool
is_high p currency = is_listed p.fx.high currency

-- a sensitivity to the calculation currency itself is no risk
abbrev pub is_own_currency : Params → List ℕ → Bool
is_own_currency p currency = same_name currency p.calculation_currency

abbrev pub fx_weight : Params → List ℕ → ℤ
fx_weight p currency =
    if is_own_currency p currency then pos 0
    else if is_high p currency then p.fx.high_weight
    else p.fx.regular_weight

abbrev pub fx_threshold : Params → List ℕ → ℤ
fx_threshold p currency =
    if is_listed p.fx.first currency then p.fx.first_threshold
    else if is_listed p.fx.second currency then p.fx.second_threshold
    else p.fx.third_threshold

-- of two different currencies, in ten-thousandths: by the volatility categories of both
abbrev pub fx_rho : Params → List ℕ → List ℕ → ℤ
fx_rho p a b =
    if is_high p a && is_high p b then p.fx.high_rho
    else if is_high p a || is_high p b then p.fx.mixed_rho
    else p.fx.regular_rho

-- the volatility of a pair: by the volatility categories of both
abbrev pub fx_sigma : Params → Pair → ℤ
fx_sigma p pair =
    if is_high p pair.first && is_high p pair.second then p.fx.high_sigma
    else if is_high p pair.first || is_high p pair.second then p.fx.mixed_sigma
    else p.fx.regular_sigma

-- the place of a currency's concentration category
abbrev pub concentration_place : Params → List ℕ → ℕ
concentration_place p currency = if is_listed p.fx.first currency then 0 else if is_listed p.fx.second currency then 1 else 2

abbrev pub fx_vega_threshold : Params → Pair → ℤ
fx_vega_threshold p pair = at_row p.fx.vega_threshold (concentration_place p pair.first) (concentration_place p pair.second)

-- ---- delta

-- those that have a risk
abbrev pub currencies_of : Params → List Sensitivity → List (Amount (List ℕ))
currencies_of p ss = filter (λ a. not (is_own_currency p a.of)) (select as_currency ss)

-- a currency is a concentration group by itself
abbrev pub weighted_currency : Params → Amount (List ℕ) → Weighted (List ℕ)
weighted_currency p a = record {
  of = a.of;
  w = weighted_value (fx_weight p a.of) a.amount (cr a.amount (fx_threshold p a.of));
  cr = cr a.amount (fx_threshold p a.of);
}

abbrev pub currency_rho : Params → List ℕ → List ℕ → ℤ
currency_rho p k l = six (fx_rho p k l)

abbrev pub fx_value : Params → List (Amount (List ℕ)) → BucketMargin
fx_value p currencies =
    bucket_value (concentrated same_name (currency_rho p)) one (map (weighted_currency p) currencies)

-- there is one bucket, so its margin is that of the class
abbrev pub fx_delta : Params → List Sensitivity → ℤ
fx_delta p ss = (fx_value p (currencies_of p ss)).k

-- ---- vega: a pair's volatilities of all tenors are one factor

abbrev pub pairs_of : List (Amount PairVolatility) → List Pair
pairs_of amounts = different pair_cmp (map (λ a. (a.of).pair) amounts)

abbrev pub pair_tenors : List (Amount PairVolatility) → Pair → List (Amount Tenor)
pair_tenors amounts pair =
    map (λ a. record { of = (a.of).tenor; amount = a.amount }) (filter (λ a. same_pair (a.of).pair pair) amounts)

-- an amount is the change for one unit of volatility: the ratio times the volatility times the amounts of all tenors
abbrev pub pair_vega_risk : Params → List (Amount PairVolatility) → Pair → ℤ
pair_vega_risk p amounts pair =
    away (p.fx.hvr *ℤ fx_sigma p pair *ℤ total_by (λ a. a.amount) (pair_tenors amounts pair)) (pos (10 ^ 8))

abbrev pub weighted_pair : Params → List (Amount PairVolatility) → Pair → Weighted Pair
weighted_pair p amounts pair = record {
  of = pair;
  w = weighted_value p.fx.vrw (pair_vega_risk p amounts pair) (cr (pair_vega_risk p amounts pair) (fx_vega_threshold p pair));
  cr = cr (pair_vega_risk p amounts pair) (fx_vega_threshold p pair);
}

abbrev pub pair_rho : Params → Pair → Pair → ℤ
pair_rho p k l = six p.fx.vol_rho

abbrev pub fx_vega_value : Params → List (Amount PairVolatility) → BucketMargin
fx_vega_value p amounts =
    bucket_value (concentrated same_pair (pair_rho p)) one (map (weighted_pair p amounts) (pairs_of amounts))

abbrev pub fx_vega : Params → List Sensitivity → ℤ
fx_vega p ss = (fx_vega_value p (select as_pair_volatility ss)).k

-- ---- curvature

abbrev pub curved_pair : Params → List (Amount PairVolatility) → Pair → Weighted Pair
curved_pair p amounts pair = curved pair (curvature_risk (fx_sigma p pair) (pair_tenors amounts pair))

abbrev pub fx_curvature_value : Params → List (Amount PairVolatility) → BucketMargin
fx_curvature_value p amounts =
    bucket_value (squared same_pair (pair_rho p)) one (map (curved_pair p amounts) (pairs_of amounts))

abbrev pub fx_curvature_part : Params → List Sensitivity → Part BucketId
fx_curvature_part p ss = record { at = bucket_id.Single; value = fx_curvature_value p (select as_pair_volatility ss) }

abbrev pub fx_curvature : Params → List Sensitivity → ℤ
fx_curvature p ss = curvature_part p.lambda_base (fx_curvature_part p ss ∷ []) ((fx_curvature_part p ss).value).k

abbrev pub fx_margin : Params → List Sensitivity → ℤ
fx_margin p ss = fx_delta p ss +ℤ fx_vega p ss +ℤ fx_curvature p ss
