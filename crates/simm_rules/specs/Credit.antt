-- Credit, qualifying and non-qualifying: numbered buckets and a residual one, each with its issuers.
-- (ISDA SIMM methodology, credit spread risk: weights, correlations within and across buckets, concentration by issuer; vega; curvature.)
use Rattle.std.specs.Prelude.{ℕ, List, [], ◌∷◌, map, Option, Some, None, Bool, true, false, ◌&&◌, ◌==◌, ℤ, pos, ◌+ℤ◌, if◌then◌else◌}
use Rattle.std.specs.List.{filter}
use Rattle.simm_kinds.specs.declared.bucket.Bucket.{Bucket}
use Rattle.simm_kinds.specs.Tenors.{tenor_at}
use Rattle.simm_kinds.specs.Order.{same_name, same_bucket, credit_tenor_place}
use Rattle.simm_rules.specs.declared.values.BucketMargin.{BucketMargin}
use Rattle.simm_rules.specs.Params.{Params, CreditParams, CreditBucket}
use Rattle.simm_rules.specs.Lookups.{six}
use Rattle.simm_rules.specs.Sums.{total_by}
use Rattle.simm_rules.specs.Net.{Sensitivity}
use Rattle.simm_rules.specs.Risks.{Risk, Of_rate, Of_rate_volatility, Of_credit, Of_credit_volatility, Of_base_correlation, Of_price, Of_price_volatility, Of_currency, Of_pair_volatility, CreditPoint, Amount, select}
use Rattle.simm_rules.specs.declared.classes.CreditClass.{CreditClass}
use Rattle.simm_rules.specs.declared.classes.CreditClass.TheVariants.{Qualifying, NonQualifying}
use Rattle.simm_rules.specs.Concentration.{one, cr}
use Rattle.simm_rules.specs.Bucket.{Weighted, weighted_value, concentrated, squared, bucket_value}
use Rattle.simm_rules.specs.Across.{Part, margin_over}
use Rattle.simm_rules.specs.Curvature.{curvature_risk, curved, curvature_over}

-- ---- which sensitivities

abbrev pub same_credit : CreditClass → CreditClass → Bool
same_credit Qualifying Qualifying = true
same_credit Qualifying NonQualifying = false
same_credit NonQualifying Qualifying = false
same_credit NonQualifying NonQualifying = true

-- a point where it is of this class and bucket
abbrev pub point_in : CreditClass → Bucket → CreditClass → Bucket → CreditPoint → Option CreditPoint
point_in class at c b point = if same_credit c class && same_bucket b at then Some point else None

abbrev pub as_credit : CreditClass → Bucket → Risk → Option CreditPoint
as_credit class at (Of_rate currency rate) = None
as_credit class at (Of_rate_volatility currency v) = None
as_credit class at (Of_credit c b point) = point_in class at c b point
as_credit class at (Of_credit_volatility c b point) = None
as_credit class at (Of_base_correlation index) = None
as_credit class at (Of_price c b name) = None
as_credit class at (Of_price_volatility c b name tenor) = None
as_credit class at (Of_currency currency) = None
as_credit class at (Of_pair_volatility pair tenor) = None

abbrev pub as_credit_volatility : CreditClass → Bucket → Risk → Option CreditPoint
as_credit_volatility class at (Of_rate currency rate) = None
as_credit_volatility class at (Of_rate_volatility currency v) = None
as_credit_volatility class at (Of_credit c b point) = None
as_credit_volatility class at (Of_credit_volatility c b point) = point_in class at c b point
as_credit_volatility class at (Of_base_correlation index) = None
as_credit_volatility class at (Of_price c b name) = None
as_credit_volatility class at (Of_price_volatility c b name tenor) = None
as_credit_volatility class at (Of_currency currency) = None
as_credit_volatility class at (Of_pair_volatility pair tenor) = None

-- ---- what the parameters say

abbrev pub credit_params : Params → CreditClass → CreditParams
credit_params p Qualifying = p.credit_q
credit_params p NonQualifying = p.credit_nq

abbrev pub listed_credit : CreditParams → List Bucket
listed_credit c = map (λ b. (b.terms).id) c.buckets

abbrev pub same_point : CreditPoint → CreditPoint → Bool
same_point k l =
    same_name k.issuer l.issuer && (credit_tenor_place k.tenor == credit_tenor_place l.tenor) && same_name k.label l.label

-- of two different points of a bucket: of one issuer, or of two
abbrev pub credit_rho : CreditBucket → CreditPoint → CreditPoint → ℤ
credit_rho b k l = six (if same_name k.issuer l.issuer then b.same else (b.terms).rho)

-- an issuer's points in a bucket are one concentration group
abbrev pub issuer_cr : List (Amount CreditPoint) → ℤ → List ℕ → ℤ
issuer_cr points threshold issuer =
    cr (total_by (λ a. a.amount) (filter (λ a. same_name (a.of).issuer issuer) points)) threshold

abbrev pub weighted_point : ℤ → ℤ → List (Amount CreditPoint) → Amount CreditPoint → Weighted CreditPoint
weighted_point weight threshold points a = record {
  of = a.of;
  w = weighted_value weight a.amount (issuer_cr points threshold (a.of).issuer);
  cr = issuer_cr points threshold (a.of).issuer;
}

-- ---- delta

abbrev pub credit_value : CreditBucket → List (Amount CreditPoint) → BucketMargin
credit_value b points =
    bucket_value (concentrated same_point (credit_rho b)) one
    (map (weighted_point (b.terms).weight ((b.terms).thresholds).delta points) points)

abbrev pub credit_parts : CreditParams → CreditClass → List Sensitivity → List (Part Bucket)
credit_parts c class ss =
    map (λ b. record { at = (b.terms).id; value = credit_value b (select (as_credit class (b.terms).id) ss) }) c.buckets

abbrev pub credit_delta : CreditParams → CreditClass → List Sensitivity → ℤ
credit_delta c class ss = margin_over (listed_credit c) c.gamma (credit_parts c class ss)

-- ---- vega: an amount is already volatility times vega

abbrev pub credit_vega_value : CreditBucket → List (Amount CreditPoint) → BucketMargin
credit_vega_value b points =
    bucket_value (concentrated same_point (credit_rho b)) one
    (map (weighted_point (b.terms).vrw ((b.terms).thresholds).vega points) points)

abbrev pub credit_vega_parts : CreditParams → CreditClass → List Sensitivity → List (Part Bucket)
credit_vega_parts c class ss =
    map (λ b. record { at = (b.terms).id; value = credit_vega_value b (select (as_credit_volatility class (b.terms).id) ss) }) c.buckets

abbrev pub credit_vega : CreditParams → CreditClass → List Sensitivity → ℤ
credit_vega c class ss = margin_over (listed_credit c) c.gamma (credit_vega_parts c class ss)

-- ---- curvature

-- a bucket without curvature has none
abbrev pub curved_point : Bool → Amount CreditPoint → Weighted CreditPoint
curved_point curvature a =
    curved a.of
    (if curvature then curvature_risk (pos 10000) (record { of = tenor_at (a.of).tenor; amount = a.amount } ∷ []) else pos 0)

abbrev pub credit_curvature_value : CreditBucket → List (Amount CreditPoint) → BucketMargin
credit_curvature_value b points =
    bucket_value (squared same_point (credit_rho b)) one (map (curved_point (b.terms).curvature) points)

abbrev pub credit_curvature_parts : CreditParams → CreditClass → List Sensitivity → List (Part Bucket)
credit_curvature_parts c class ss =
    map (λ b. record { at = (b.terms).id; value = credit_curvature_value b (select (as_credit_volatility class (b.terms).id) ss) }) c.buckets

abbrev pub credit_curvature : ℤ → CreditParams → CreditClass → List Sensitivity → ℤ
credit_curvature base c class ss = curvature_over base (listed_credit c) c.gamma (credit_curvature_parts c class ss)

abbrev pub credit_margin : Params → CreditClass → List Sensitivity → ℤ
credit_margin p class ss =
    credit_delta (credit_params p class) class ss
    +ℤ credit_vega (credit_params p class) class ss
    +ℤ credit_curvature p.lambda_base (credit_params p class) class ss
