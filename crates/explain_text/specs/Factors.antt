-- The lines of the factors of a bucket in a measure: each with what it is weighed from, and with its weighted value by the very
-- words that the value of the bucket sums over.
-- (ISDA SIMM methodology: weighted sensitivities, concentration risk factors, curvature risk exposures, base correlation margin.)
use Rattle.std.specs.Prelude.{ℕ, List, [], Option, Some, None, ℤ, ◌*ℤ◌}
use Rattle.std.specs.List.{flat_map}
use Rattle.measured_bucket.specs.SimmKinds.declared.kinds.Measure.{Measure}
use Rattle.measured_bucket.specs.SimmKinds.declared.kinds.Measure.TheVariants as measure
use Rattle.measured_bucket.specs.SimmKinds.declared.kinds.ProductClass.{ProductClass}
use Rattle.measured_bucket.specs.SimmKinds.declared.kinds.RiskType.{RiskType}
use Rattle.measured_bucket.specs.SimmKinds.declared.kinds.Tenor.{Tenor}
use Rattle.measured_bucket.specs.SimmKinds.declared.bucket.Bucket.{Bucket}
use Rattle.measured_bucket.specs.SimmKinds.declared.key.FactorKey.{FactorKey}
use Rattle.measured_bucket.specs.SimmKinds.Pair.{Pair}
use Rattle.measured_bucket.specs.SimmRules.Params.{Params, CreditBucket, PricedBucket}
use Rattle.measured_bucket.specs.SimmRules.Risks.{Amount, CreditPoint}
use Rattle.measured_bucket.specs.SimmRules.Sums.{total_by}
use Rattle.measured_bucket.specs.SimmRules.Bucket.{Weighted}
use Rattle.measured_bucket.specs.SimmRules.Curvature.{scale_of}
use Rattle.measured_bucket.specs.SimmRules.BaseCorrelation.{weighted_index}
use Rattle.measured_bucket.specs.SimmRules.Rates.{RateIn, VolatilityIn, rate_cr, weighted_rate, rate_volatility_cr, weighted_rate_volatility, curved_rate_volatility}
use Rattle.measured_bucket.specs.SimmRules.Credit.{credit_params, weighted_point, curved_point}
use Rattle.measured_bucket.specs.SimmRules.Priced.{NameVolatility, priced_params, names_of, tenors_of, weighted_name, price_vega_risk, curved_name}
use Rattle.measured_bucket.specs.SimmRules.ForeignExchange.{PairVolatility, fx_sigma, fx_vega_threshold, weighted_currency, pairs_of, pair_tenors, pair_vega_risk, weighted_pair, curved_pair}
use Rattle.measured_bucket.specs.SimmParams.ListedBuckets.{credit_bucket_of, priced_bucket_of}
use Rattle.bucket_cache.specs.FactorBook.declared.holding.Holding.{Holding}
use Rattle.measured_bucket.specs.declared.explained.Explained.{Explained}
use Rattle.measured_bucket.specs.Explained.{Unweighed, from_itself, without_group}
use Rattle.class_rates.specs.Rates.{rates_among}
use Rattle.class_rates.specs.Volatilities.{volatilities_among}
use Rattle.class_rates.specs.Unweighed.{rates_group, unweighed_rate, volatilities_group, unweighed_volatility, uncurved_volatility}
use Rattle.class_credit.specs.Points.{point_nets}
use Rattle.class_credit.specs.Unweighed.{unweighed_point, uncurved_point, unweighed_index}
use Rattle.class_priced.specs.Names.{name_nets, volatility_nets}
use Rattle.class_priced.specs.Unweighed.{unweighed_name}
use Rattle.class_priced.specs.Weights.{curved_at}
use Rattle.class_exchange.specs.Currencies.{risky_nets}
use Rattle.class_exchange.specs.Pairs.{pair_nets}
use Rattle.class_exchange.specs.Unweighed.{unweighed_currency}
use Rattle.bucket_cache.specs.FactorBook.declared.slot.Slot.{Slot}
use Rattle.bucket_cache.specs.FactorBook.declared.slot.Slot.TheVariants as slot
use Rattle.explain_text.specs.Lines.{factor_line}
use Rattle.explain_text.specs.Names.{rate_name, volatility_name, point_type, point_volatility_type, point_name, index_name, price_type, price_volatility_type, price_name, currency_name, pair_name}

-- of one thing, where there is one
abbrev pub lines_of : {A : Type 0} → (A → List ℕ) → Option A → List ℕ
lines_of lines None = []
lines_of lines (Some x) = lines x

-- a factor, before and after it is weighed
abbrev pub weighted_line : {A : Type 0} → Measure → ProductClass → (A → List ℕ) → Unweighed A → Weighted A → List ℕ
weighted_line measure product name u w = factor_line measure product (name w.of) u.from w.cr w.w

-- the factors that the rule makes of these, in their order
abbrev pub weighted_lines : {A B : Type 0} → Measure → ProductClass → (A → List ℕ) → (B → Unweighed A) → (B → Weighted A) → List B → List ℕ
weighted_lines measure product name from weighted xs = flat_map (λ x. weighted_line measure product name (from x) (weighted x)) xs

-- ---- a currency

abbrev pub rate_lines : Params → ProductClass → List ℕ → List (Amount RateIn) → List ℕ
rate_lines p product currency rates =
    weighted_lines measure.Delta product (rate_name currency) (unweighed_rate p (rates_group p currency rates))
    (weighted_rate p (rate_cr p currency rates)) rates

abbrev pub rate_vega_lines : Params → ProductClass → List ℕ → List (Amount VolatilityIn) → List ℕ
rate_vega_lines p product currency volatilities =
    weighted_lines measure.Vega product (volatility_name currency) (unweighed_volatility p (volatilities_group p currency volatilities))
    (weighted_rate_volatility p (rate_volatility_cr p currency volatilities)) volatilities

abbrev pub rate_curvature_lines : ProductClass → List ℕ → List (Amount VolatilityIn) → List ℕ
rate_curvature_lines product currency volatilities =
    weighted_lines measure.Curvature product (volatility_name currency) uncurved_volatility curved_rate_volatility volatilities

-- ---- a bucket of credit

abbrev pub point_lines : ProductClass → RiskType → Bucket → List (Amount CreditPoint) → CreditBucket → List ℕ
point_lines product kind at points b =
    weighted_lines measure.Delta product (point_name kind at) (unweighed_point (b.terms).weight ((b.terms).thresholds).delta points)
    (weighted_point (b.terms).weight ((b.terms).thresholds).delta points) points

abbrev pub point_vega_lines : ProductClass → RiskType → Bucket → List (Amount CreditPoint) → CreditBucket → List ℕ
point_vega_lines product kind at points b =
    weighted_lines measure.Vega product (point_name kind at) (unweighed_point (b.terms).vrw ((b.terms).thresholds).vega points)
    (weighted_point (b.terms).vrw ((b.terms).thresholds).vega points) points

abbrev pub point_curvature_lines : ProductClass → RiskType → Bucket → List (Amount CreditPoint) → CreditBucket → List ℕ
point_curvature_lines product kind at points b =
    weighted_lines measure.Curvature product (point_name kind at) (uncurved_point (b.terms).curvature) (curved_point (b.terms).curvature) points

-- the index families of base correlation
abbrev pub index_lines : Params → ProductClass → List (Amount (List ℕ)) → List ℕ
index_lines p product indices =
    weighted_lines measure.BaseCorr product index_name (unweighed_index p) (weighted_index p) indices

-- ---- a bucket of equity or of commodities: the volatilities of a name at all tenors are one factor

-- what amounts by tenor come to, each times what its tenor counts in curvature
abbrev pub scaled_total : List (Amount Tenor) → ℤ
scaled_total amounts = total_by (λ a. scale_of a.of *ℤ a.amount) amounts

abbrev pub vega_of_name : ℤ → PricedBucket → List (Amount NameVolatility) → List ℕ → Unweighed (List ℕ)
vega_of_name hvr b amounts name = record {
  of = name;
  from = from_itself (b.terms).vrw ((b.terms).thresholds).vega (price_vega_risk hvr b.sigma (tenors_of amounts name));
}

abbrev pub curvature_of_name : PricedBucket → List (Amount NameVolatility) → List ℕ → Unweighed (List ℕ)
curvature_of_name b amounts name = record { of = name; from = without_group (curved_at b) (scaled_total (tenors_of amounts name)) }

abbrev pub name_lines : ProductClass → RiskType → Bucket → List (Amount (List ℕ)) → PricedBucket → List ℕ
name_lines product kind at names b =
    weighted_lines measure.Delta product (price_name kind at) (unweighed_name b)
    (λ a. weighted_name (b.terms).weight ((b.terms).thresholds).delta a.of a.amount) names

abbrev pub name_vega_lines : ProductClass → RiskType → Bucket → ℤ → List (Amount NameVolatility) → PricedBucket → List ℕ
name_vega_lines product kind at hvr amounts b =
    weighted_lines measure.Vega product (price_name kind at) (vega_of_name hvr b amounts)
    (λ name. weighted_name (b.terms).vrw ((b.terms).thresholds).vega name (price_vega_risk hvr b.sigma (tenors_of amounts name)))
    (names_of amounts)

abbrev pub name_curvature_lines : ProductClass → RiskType → Bucket → List (Amount NameVolatility) → PricedBucket → List ℕ
name_curvature_lines product kind at amounts b =
    weighted_lines measure.Curvature product (price_name kind at) (curvature_of_name b amounts) (curved_name b amounts) (names_of amounts)

-- ---- foreign exchange: the volatilities of a pair at all tenors are one factor

abbrev pub vega_of_pair : Params → List (Amount PairVolatility) → Pair → Unweighed Pair
vega_of_pair p amounts pair = record { of = pair; from = from_itself p.fx.vrw (fx_vega_threshold p pair) (pair_vega_risk p amounts pair) }

abbrev pub curvature_of_pair : Params → List (Amount PairVolatility) → Pair → Unweighed Pair
curvature_of_pair p amounts pair = record { of = pair; from = without_group (fx_sigma p pair) (scaled_total (pair_tenors amounts pair)) }

abbrev pub currency_lines : Params → ProductClass → List (Amount (List ℕ)) → List ℕ
currency_lines p product currencies =
    weighted_lines measure.Delta product currency_name (unweighed_currency p) (weighted_currency p) currencies

abbrev pub pair_vega_lines : Params → ProductClass → List (Amount PairVolatility) → List ℕ
pair_vega_lines p product amounts =
    weighted_lines measure.Vega product pair_name (vega_of_pair p amounts) (weighted_pair p amounts) (pairs_of amounts)

abbrev pub pair_curvature_lines : Params → ProductClass → List (Amount PairVolatility) → List ℕ
pair_curvature_lines p product amounts =
    weighted_lines measure.Curvature product pair_name (curvature_of_pair p amounts) (curved_pair p amounts) (pairs_of amounts)

-- ---- by what stands in a bucket; none of one that the parameter file doesn't list

abbrev pub delta_lines : Params → ProductClass → List (FactorKey × Holding) → Slot → List ℕ
delta_lines p product its (slot.Rates currency) = rate_lines p product currency (rates_among currency its)
delta_lines p product its (slot.Credit class at) =
    lines_of (point_lines product (point_type class) at (point_nets its)) (credit_bucket_of (credit_params p class).buckets at)
delta_lines p product its (slot.Priced class at) =
    lines_of (name_lines product (price_type class) at (name_nets its)) (priced_bucket_of (priced_params p class).buckets at)
delta_lines p product its slot.Exchange = currency_lines p product (risky_nets p its)

abbrev pub vega_lines : Params → ProductClass → List (FactorKey × Holding) → Slot → List ℕ
vega_lines p product its (slot.Rates currency) = rate_vega_lines p product currency (volatilities_among currency its)
vega_lines p product its (slot.Credit class at) =
    lines_of (point_vega_lines product (point_volatility_type class) at (point_nets its))
    (credit_bucket_of (credit_params p class).buckets at)
vega_lines p product its (slot.Priced class at) =
    lines_of (name_vega_lines product (price_volatility_type class) at (priced_params p class).hvr (volatility_nets its))
    (priced_bucket_of (priced_params p class).buckets at)
vega_lines p product its slot.Exchange = pair_vega_lines p product (pair_nets its)

abbrev pub curvature_lines : Params → ProductClass → List (FactorKey × Holding) → Slot → List ℕ
curvature_lines p product its (slot.Rates currency) = rate_curvature_lines product currency (volatilities_among currency its)
curvature_lines p product its (slot.Credit class at) =
    lines_of (point_curvature_lines product (point_volatility_type class) at (point_nets its))
    (credit_bucket_of (credit_params p class).buckets at)
curvature_lines p product its (slot.Priced class at) =
    lines_of (name_curvature_lines product (price_volatility_type class) at (volatility_nets its))
    (priced_bucket_of (priced_params p class).buckets at)
curvature_lines p product its slot.Exchange = pair_curvature_lines p product (pair_nets its)

-- ---- as the code has them

abbrev pub explained_line : {N : Type 0} → Measure → ProductClass → (N → List ℕ) → Explained N → List ℕ
explained_line measure product name e = factor_line measure product (name e.net) e.from ((e.weighed).cr).0 (e.weighed).w
