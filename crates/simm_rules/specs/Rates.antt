-- Interest rates: one bucket a currency.
-- (ISDA SIMM methodology, interest rate risk: weights, correlations and concentration of curves, inflation and basis; vega; curvature.)
use Rattle.std.specs.Prelude.{ℕ, ◌^◌, List, map, Option, Some, None, Bool, true, false, ◌&&◌, not, ◌==◌, ℤ, pos, ◌+ℤ◌, ◌*ℤ◌, [], ◌∷◌, if◌then◌else◌}
use Rattle.std.specs.List.{filter, find}
use Rattle.simm_kinds.specs.MhUnits.Rounding.{up, trunc}
use Rattle.simm_kinds.specs.declared.kinds.Tenor.{Tenor}
use Rattle.simm_kinds.specs.declared.kinds.SubCurve.{SubCurve}
use Rattle.simm_kinds.specs.Order.{name_cmp, same_name, tenor_place, sub_place}
use Rattle.simm_rules.specs.declared.values.BucketMargin.{BucketMargin}
use Rattle.simm_rules.specs.Params.{Params, Thresholds, CurrencyGroup}
use Rattle.simm_rules.specs.Lookups.{is_listed, at_place, at_row, six}
use Rattle.simm_rules.specs.Sums.{total_by, different}
use Rattle.simm_rules.specs.Net.{Sensitivity}
use Rattle.simm_rules.specs.Risks.{Risk, Of_rate, Of_rate_volatility, Of_credit, Of_credit_volatility, Of_base_correlation, Of_price, Of_price_volatility, Of_currency, Of_pair_volatility, Rate, Curve, Inflation, Basis, RateVolatility, Of_rates, Of_inflation, Amount, select}
use Rattle.simm_rules.specs.Concentration.{one, cr, ratio}
use Rattle.simm_rules.specs.Bucket.{Weighted, weighted_value, combined, plain, squared, bucket_value}
use Rattle.simm_rules.specs.Across.{Part, outer}
use Rattle.simm_rules.specs.Curvature.{curvature_risk, curved, curvature_part}

-- ---- which sensitivities

-- a rate with its currency
pub record RateIn : Type 0 where
  pub currency : List ℕ
  pub rate : Rate

pub record VolatilityIn : Type 0 where
  pub currency : List ℕ
  pub volatility : RateVolatility

abbrev pub as_rate : Risk → Option RateIn
as_rate (Of_rate currency rate) = Some (record { currency = currency; rate = rate })
as_rate (Of_rate_volatility currency v) = None
as_rate (Of_credit class b point) = None
as_rate (Of_credit_volatility class b point) = None
as_rate (Of_base_correlation index) = None
as_rate (Of_price class b name) = None
as_rate (Of_price_volatility class b name tenor) = None
as_rate (Of_currency currency) = None
as_rate (Of_pair_volatility pair tenor) = None

abbrev pub as_rate_volatility : Risk → Option VolatilityIn
as_rate_volatility (Of_rate currency rate) = None
as_rate_volatility (Of_rate_volatility currency v) = Some (record { currency = currency; volatility = v })
as_rate_volatility (Of_credit class b point) = None
as_rate_volatility (Of_credit_volatility class b point) = None
as_rate_volatility (Of_base_correlation index) = None
as_rate_volatility (Of_price class b name) = None
as_rate_volatility (Of_price_volatility class b name tenor) = None
as_rate_volatility (Of_currency currency) = None
as_rate_volatility (Of_pair_volatility pair tenor) = None

-- ---- what the parameters say

abbrev pub curve_weights : Params → List ℕ → List ℤ
curve_weights p currency =
    if is_listed p.ir.low currency then p.ir.weights.low
    else if is_listed p.ir.regular currency then p.ir.weights.regular
    else p.ir.weights.high

abbrev pub rate_weight : Params → RateIn → ℤ
rate_weight p r = weight_of p r.currency r.rate
  where
    weight_of : Params → List ℕ → Rate → ℤ
    weight_of p currency (Curve tenor sub) = at_place (curve_weights p currency) (tenor_place tenor)
    weight_of p currency Inflation = p.ir.inflation_weight
    weight_of p currency Basis = p.ir.basis_weight

-- of the group that lists the currency, or else of all others
abbrev pub rate_thresholds : Params → List ℕ → Thresholds
rate_thresholds p currency = of_group (find (λ g. is_listed g.currencies currency) p.ir.groups)
  where
    of_group : Option CurrencyGroup → Thresholds
    of_group None = p.ir.other
    of_group (Some g) = g.thresholds

-- the correlation of two tenors and of two sub-curves, in ten-thousandths: 1 of one with itself
abbrev pub tenor_rho : Params → Tenor → Tenor → ℤ
tenor_rho p t u =
    if tenor_place t == tenor_place u then pos 10000 else at_row p.ir.rho (tenor_place t) (tenor_place u)

abbrev pub sub_rho : Params → SubCurve → SubCurve → ℤ
sub_rho p s v = if sub_place s == sub_place v then pos 10000 else p.ir.phi

-- in millionths; of a factor with itself it is 1
abbrev pub rate_rho : Params → Rate → Rate → ℤ
rate_rho p (Curve t s) (Curve u v) = trunc (sub_rho p s v *ℤ tenor_rho p t u) (pos 100)
rate_rho p (Curve t s) Inflation = six p.ir.inflation_rho
rate_rho p Inflation (Curve u v) = six p.ir.inflation_rho
rate_rho p Inflation Inflation = one
rate_rho p (Curve t s) Basis = six p.ir.basis_rho
rate_rho p Inflation Basis = six p.ir.basis_rho
rate_rho p Basis (Curve u v) = six p.ir.basis_rho
rate_rho p Basis Inflation = six p.ir.basis_rho
rate_rho p Basis Basis = one

abbrev pub same_rate : Rate → Rate → Bool
same_rate (Curve t s) (Curve u v) = (tenor_place t == tenor_place u) && (sub_place s == sub_place v)
same_rate (Curve t s) Inflation = false
same_rate (Curve t s) Basis = false
same_rate Inflation (Curve u v) = false
same_rate Inflation Inflation = true
same_rate Inflation Basis = false
same_rate Basis (Curve u v) = false
same_rate Basis Inflation = false
same_rate Basis Basis = true

abbrev pub rate_volatility_rho : Params → RateVolatility → RateVolatility → ℤ
rate_volatility_rho p (Of_rates t) (Of_rates u) = six (tenor_rho p t u)
rate_volatility_rho p (Of_rates t) (Of_inflation u) = six p.ir.inflation_rho
rate_volatility_rho p (Of_inflation t) (Of_rates u) = six p.ir.inflation_rho
rate_volatility_rho p (Of_inflation t) (Of_inflation u) = six (tenor_rho p t u)

abbrev pub same_rate_volatility : RateVolatility → RateVolatility → Bool
same_rate_volatility (Of_rates t) (Of_rates u) = tenor_place t == tenor_place u
same_rate_volatility (Of_rates t) (Of_inflation u) = false
same_rate_volatility (Of_inflation t) (Of_rates u) = false
same_rate_volatility (Of_inflation t) (Of_inflation u) = tenor_place t == tenor_place u

-- ---- delta

abbrev pub rates_in : List ℕ → List Sensitivity → List (Amount RateIn)
rates_in currency ss = filter (λ a. same_name (a.of).currency currency) (select as_rate ss)

abbrev pub is_basis : Rate → Bool
is_basis (Curve tenor sub) = false
is_basis Inflation = false
is_basis Basis = true

-- a currency's curves and inflation are one concentration group; basis is in none
abbrev pub rate_cr : Params → List ℕ → List (Amount RateIn) → ℤ
rate_cr p currency rates =
    cr (total_by (λ a. a.amount) (filter (λ a. not (is_basis (a.of).rate)) rates)) (rate_thresholds p currency).delta

abbrev pub weighted_rate : Params → ℤ → Amount RateIn → Weighted Rate
weighted_rate p cr a = at_concentration (if is_basis (a.of).rate then one else cr)
  where
    at_concentration : ℤ → Weighted Rate
    at_concentration c = record { of = (a.of).rate; w = weighted_value (rate_weight p a.of) a.amount c; cr = c }

abbrev pub currency_value : Params → List ℕ → List (Amount RateIn) → BucketMargin
currency_value p currency rates =
    bucket_value (plain same_rate (rate_rho p)) (rate_cr p currency rates) (map (weighted_rate p (rate_cr p currency rates)) rates)

abbrev pub rate_parts : Params → List Sensitivity → List (Part (List ℕ))
rate_parts p ss =
    map (λ currency. record { at = currency; value = currency_value p currency (rates_in currency ss) })
    (different name_cmp (map (λ a. (a.of).currency) (select as_rate ss)))

-- the correlation of two currencies, times the ratio of their concentration factors
abbrev pub across_currencies : Params → Part (List ℕ) → Part (List ℕ) → ℤ
across_currencies p b c = combined (six p.ir.gamma) (ratio ((b.value).cr).0 ((c.value).cr).0)

abbrev pub rate_delta : Params → List Sensitivity → ℤ
rate_delta p ss = outer same_name (across_currencies p) (rate_parts p ss)

-- ---- vega

abbrev pub volatilities_in : List ℕ → List Sensitivity → List (Amount VolatilityIn)
volatilities_in currency ss = filter (λ a. same_name (a.of).currency currency) (select as_rate_volatility ss)

-- a currency's volatilities are one concentration group; an amount is already volatility times vega
abbrev pub rate_volatility_cr : Params → List ℕ → List (Amount VolatilityIn) → ℤ
rate_volatility_cr p currency amounts = cr (total_by (λ a. a.amount) amounts) (rate_thresholds p currency).vega

abbrev pub weighted_rate_volatility : Params → ℤ → Amount VolatilityIn → Weighted RateVolatility
weighted_rate_volatility p cr a = record { of = (a.of).volatility; w = weighted_value p.ir.vrw a.amount cr; cr = cr }

abbrev pub currency_vega_value : Params → List ℕ → List (Amount VolatilityIn) → BucketMargin
currency_vega_value p currency amounts =
    bucket_value (plain same_rate_volatility (rate_volatility_rho p)) (rate_volatility_cr p currency amounts)
    (map (weighted_rate_volatility p (rate_volatility_cr p currency amounts)) amounts)

abbrev pub volatility_currencies : List Sensitivity → List (List ℕ)
volatility_currencies ss = different name_cmp (map (λ a. (a.of).currency) (select as_rate_volatility ss))

abbrev pub rate_vega_parts : Params → List Sensitivity → List (Part (List ℕ))
rate_vega_parts p ss =
    map (λ currency. record { at = currency; value = currency_vega_value p currency (volatilities_in currency ss) })
    (volatility_currencies ss)

abbrev pub rate_vega : Params → List Sensitivity → ℤ
rate_vega p ss = outer same_name (across_currencies p) (rate_vega_parts p ss)

-- ---- curvature

abbrev pub tenor_of : RateVolatility → Tenor
tenor_of (Of_rates tenor) = tenor
tenor_of (Of_inflation tenor) = tenor

abbrev pub curved_rate_volatility : Amount VolatilityIn → Weighted RateVolatility
curved_rate_volatility a =
    curved (a.of).volatility
    (curvature_risk (pos 10000) (record { of = tenor_of (a.of).volatility; amount = a.amount } ∷ []))

abbrev pub currency_curvature_value : Params → List (Amount VolatilityIn) → BucketMargin
currency_curvature_value p amounts =
    bucket_value (squared same_rate_volatility (rate_volatility_rho p)) one (map curved_rate_volatility amounts)

abbrev pub rate_curvature_parts : Params → List Sensitivity → List (Part (List ℕ))
rate_curvature_parts p ss =
    map (λ currency. record { at = currency; value = currency_curvature_value p (volatilities_in currency ss) })
    (volatility_currencies ss)

-- divided by the square of the historical volatility ratio, upwards
abbrev pub rate_curvature : Params → List Sensitivity → ℤ
rate_curvature p ss =
    up (curvature_part p.lambda_base (rate_curvature_parts p ss)
    (outer same_name (λ b c. combined (six p.ir.gamma) (six p.ir.gamma)) (rate_curvature_parts p ss)) *ℤ pos (10 ^ 8))
    (p.ir.hvr *ℤ p.ir.hvr)

abbrev pub rate_margin : Params → List Sensitivity → ℤ
rate_margin p ss = rate_delta p ss +ℤ rate_vega p ss +ℤ rate_curvature p ss
