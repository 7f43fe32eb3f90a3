-- Equity and commodities: numbered buckets, in equity a residual one too, each with its names.
-- (ISDA SIMM methodology, equity and commodity risk: weights, correlations, concentration by name; vega with the historical
-- volatility ratio; curvature.)
use Rattle.std.specs.Prelude.{ℕ, ◌^◌, List, map, Option, Some, None, Bool, true, false, ◌&&◌, ℤ, pos, ◌+ℤ◌, ◌*ℤ◌, if◌then◌else◌}
use Rattle.std.specs.List.{filter}
use Rattle.simm_kinds.specs.MhUnits.Rounding.{away}
use Rattle.simm_kinds.specs.declared.kinds.Tenor.{Tenor}
use Rattle.simm_kinds.specs.declared.bucket.Bucket.{Bucket}
use Rattle.simm_kinds.specs.Order.{name_cmp, same_name, same_bucket}
use Rattle.simm_rules.specs.declared.values.BucketMargin.{BucketMargin}
use Rattle.simm_rules.specs.Params.{Params, PricedParams, PricedBucket}
use Rattle.simm_rules.specs.Lookups.{six}
use Rattle.simm_rules.specs.Sums.{total_by, different}
use Rattle.simm_rules.specs.Net.{Sensitivity}
use Rattle.simm_rules.specs.Risks.{Risk, Of_rate, Of_rate_volatility, Of_credit, Of_credit_volatility, Of_base_correlation, Of_price, Of_price_volatility, Of_currency, Of_pair_volatility, Amount, select}
use Rattle.simm_rules.specs.declared.classes.PricedClass.{PricedClass}
use Rattle.simm_rules.specs.declared.classes.PricedClass.TheVariants.{Equities, Commodities}
use Rattle.simm_rules.specs.Concentration.{one, cr}
use Rattle.simm_rules.specs.Bucket.{Weighted, weighted_value, concentrated, squared, bucket_value}
use Rattle.simm_rules.specs.Across.{Part, margin_over}
use Rattle.simm_rules.specs.Curvature.{curvature_risk, curved, curvature_over}

-- ---- which sensitivities

abbrev pub same_priced : PricedClass → PricedClass → Bool
same_priced Equities Equities = true
same_priced Equities Commodities = false
same_priced Commodities Equities = false
same_priced Commodities Commodities = true

-- a name's volatility at a tenor
pub record NameVolatility : Type 0 where
  pub name : List ℕ
  pub tenor : Tenor

abbrev pub as_price : PricedClass → Bucket → Risk → Option (List ℕ)
as_price class at (Of_rate currency rate) = None
as_price class at (Of_rate_volatility currency v) = None
as_price class at (Of_credit c b point) = None
as_price class at (Of_credit_volatility c b point) = None
as_price class at (Of_base_correlation index) = None
as_price class at (Of_price c b name) = if same_priced c class && same_bucket b at then Some name else None
as_price class at (Of_price_volatility c b name tenor) = None
as_price class at (Of_currency currency) = None
as_price class at (Of_pair_volatility pair tenor) = None

abbrev pub as_price_volatility : PricedClass → Bucket → Risk → Option NameVolatility
as_price_volatility class at (Of_rate currency rate) = None
as_price_volatility class at (Of_rate_volatility currency v) = None
as_price_volatility class at (Of_credit c b point) = None
as_price_volatility class at (Of_credit_volatility c b point) = None
as_price_volatility class at (Of_base_correlation index) = None
as_price_volatility class at (Of_price c b name) = None
as_price_volatility class at (Of_price_volatility c b name tenor) =
    if same_priced c class && same_bucket b at then Some (record { name = name; tenor = tenor }) else None
as_price_volatility class at (Of_currency currency) = None
as_price_volatility class at (Of_pair_volatility pair tenor) = None

-- ---- what the parameters say

abbrev pub priced_params : Params → PricedClass → PricedParams
priced_params p Equities = p.equity
priced_params p Commodities = p.commodity

abbrev pub listed_priced : PricedParams → List Bucket
listed_priced c = map (λ b. (b.terms).id) c.buckets

-- of two different names of a bucket
abbrev pub name_rho : PricedBucket → List ℕ → List ℕ → ℤ
name_rho b k l = six (b.terms).rho

-- a name in a bucket is a concentration group by itself
abbrev pub weighted_name : ℤ → ℤ → List ℕ → ℤ → Weighted (List ℕ)
weighted_name weight threshold name x = record {
  of = name;
  w = weighted_value weight x (cr x threshold);
  cr = cr x threshold;
}

-- ---- delta

abbrev pub price_value : PricedBucket → List (Amount (List ℕ)) → BucketMargin
price_value b names =
    bucket_value (concentrated same_name (name_rho b)) one
    (map (λ a. weighted_name (b.terms).weight ((b.terms).thresholds).delta a.of a.amount) names)

abbrev pub price_parts : PricedParams → PricedClass → List Sensitivity → List (Part Bucket)
price_parts c class ss =
    map (λ b. record { at = (b.terms).id; value = price_value b (select (as_price class (b.terms).id) ss) }) c.buckets

abbrev pub price_delta : PricedParams → PricedClass → List Sensitivity → ℤ
price_delta c class ss = margin_over (listed_priced c) c.gamma (price_parts c class ss)

-- ---- vega: a name's volatilities of all tenors are one factor

abbrev pub names_of : List (Amount NameVolatility) → List (List ℕ)
names_of amounts = different name_cmp (map (λ a. (a.of).name) amounts)

-- a name's amounts by tenor
abbrev pub tenors_of : List (Amount NameVolatility) → List ℕ → List (Amount Tenor)
tenors_of amounts name =
    map (λ a. record { of = (a.of).tenor; amount = a.amount }) (filter (λ a. same_name (a.of).name name) amounts)

-- an amount is the change for one unit of volatility: the ratio times the volatility times the amounts of all tenors
abbrev pub price_vega_risk : ℤ → ℤ → List (Amount Tenor) → ℤ
price_vega_risk hvr sigma amounts = away (hvr *ℤ sigma *ℤ total_by (λ a. a.amount) amounts) (pos (10 ^ 8))

abbrev pub price_vega_value : ℤ → PricedBucket → List (Amount NameVolatility) → BucketMargin
price_vega_value hvr b amounts =
    bucket_value (concentrated same_name (name_rho b)) one
    (map (λ name. weighted_name (b.terms).vrw ((b.terms).thresholds).vega name (price_vega_risk hvr b.sigma (tenors_of amounts name)))
    (names_of amounts))

abbrev pub price_vega_parts : PricedParams → PricedClass → List Sensitivity → List (Part Bucket)
price_vega_parts c class ss =
    map (λ b. record { at = (b.terms).id; value = price_vega_value c.hvr b (select (as_price_volatility class (b.terms).id) ss) }) c.buckets

abbrev pub price_vega : PricedParams → PricedClass → List Sensitivity → ℤ
price_vega c class ss = margin_over (listed_priced c) c.gamma (price_vega_parts c class ss)

-- ---- curvature: of a bucket without curvature there is none

abbrev pub curved_name : PricedBucket → List (Amount NameVolatility) → List ℕ → Weighted (List ℕ)
curved_name b amounts name =
    curved name (if (b.terms).curvature then curvature_risk b.sigma (tenors_of amounts name) else pos 0)

abbrev pub price_curvature_value : PricedBucket → List (Amount NameVolatility) → BucketMargin
price_curvature_value b amounts =
    bucket_value (squared same_name (name_rho b)) one (map (curved_name b amounts) (names_of amounts))

abbrev pub price_curvature_parts : PricedParams → PricedClass → List Sensitivity → List (Part Bucket)
price_curvature_parts c class ss =
    map (λ b. record { at = (b.terms).id; value = price_curvature_value b (select (as_price_volatility class (b.terms).id) ss) }) c.buckets

abbrev pub price_curvature : ℤ → PricedParams → PricedClass → List Sensitivity → ℤ
price_curvature base c class ss = curvature_over base (listed_priced c) c.gamma (price_curvature_parts c class ss)

abbrev pub price_margin : Params → PricedClass → List Sensitivity → ℤ
price_margin p class ss =
    price_delta (priced_params p class) class ss
    +ℤ price_vega (priced_params p class) class ss
    +ℤ price_curvature p.lambda_base (priced_params p class) class ss
