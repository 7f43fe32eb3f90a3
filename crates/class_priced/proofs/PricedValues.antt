-- The values of the names of a bucket, by what their volatilities come to over tenors, are the rule's.
use Rattle.std.proofs.Common.{◌≡◌, List, ℕ, map, Bool, true, false, if◌then◌else◌, ap, ◌∙◌, ℤ, pos}
use Rattle.std.proofs.lemmas.Simd.{map-map}
use Rattle.measured_bucket.specs.SimmRules.declared.values.BucketMargin.{BucketMargin}
use Rattle.measured_bucket.specs.SimmRules.Params.{PricedBucket}
use Rattle.measured_bucket.specs.SimmKinds.Order.{same_name}
use Rattle.measured_bucket.specs.SimmRules.Concentration.{one}
use Rattle.measured_bucket.specs.SimmRules.Risks.{Amount}
use Rattle.measured_bucket.specs.SimmRules.Bucket.{concentrated, squared, bucket_value}
use Rattle.measured_bucket.specs.SimmRules.Curvature.{curved, curvature_risk}
use Rattle.measured_bucket.specs.SimmRules.Priced.{NameVolatility, name_rho, names_of, tenors_of, weighted_name, price_vega_risk, price_vega_value, price_curvature_value, curved_name as rule_name}
use Rattle.measured_bucket.specs.Risk.{risk_of}
use Rattle.measured_bucket.specs.declared.tenor_scale.TenorScale.TheVariants as scale
use Rattle.measured_bucket.proofs.Curved.{risk_is, risk_none}
use Rattle.measured_bucket.proofs.Lists.{maps_agree}
use Rattle.measured_bucket.proofs.OverTenors.{net-even}
use Rattle.class_priced.specs.Sums.{name_total, name_totals}
use Rattle.class_priced.specs.Weights.{curved_name, vega_name}
use Rattle.class_priced.proofs.VolatileNames.{names}

-- by the sums of names
abbrev pub vega_of : PricedBucket → ℤ → List (Amount (List ℕ)) → BucketMargin
vega_of b hvr sums = bucket_value (concentrated same_name (name_rho b)) one (map (vega_name hvr b) sums)

abbrev pub curvature_of : PricedBucket → List (Amount (List ℕ)) → BucketMargin
curvature_of b sums = bucket_value (squared same_name (name_rho b)) one (map (curved_name b) sums)

module _ (b : PricedBucket) (amounts : List (Amount NameVolatility)) where
  -- ---- vega

  module _ (hvr : ℤ) where
    vega_one : (name : List ℕ) → vega_name hvr b (record { of = name; amount = name_total scale.Even amounts name }) ≡ weighted_name (b.terms).vrw ((b.terms).thresholds).vega name (price_vega_risk hvr b.sigma (tenors_of amounts name))
    vega_one name = ap (λ z. vega_name hvr b (record { of = name; amount = z })) (net-even names amounts name)

    pub vega_is : vega_of b hvr (name_totals scale.Even amounts) ≡ price_vega_value hvr b amounts
    vega_is =
        ap (bucket_value (concentrated same_name (name_rho b)) one)
        (map-map (vega_name hvr b) (λ name. record { of = name; amount = name_total scale.Even amounts name }) (names_of amounts)
        ∙ maps_agree (λ name. vega_name hvr b (record { of = name; amount = name_total scale.Even amounts name })) (λ name. weighted_name (b.terms).vrw ((b.terms).thresholds).vega name (price_vega_risk hvr b.sigma (tenors_of amounts name))) vega_one (names_of amounts))

  -- ---- curvature: a name's risk, or none in a bucket without curvature

  risk_by : (curvature : Bool) (name : List ℕ) → risk_of (if curvature then b.sigma else pos 0) (name_total scale.Curved amounts name) ≡ (if curvature then curvature_risk b.sigma (tenors_of amounts name) else pos 0)
  risk_by true name = risk_is b.sigma (tenors_of amounts name)
  risk_by false name = risk_none (name_total scale.Curved amounts name)

  curved_one : (name : List ℕ) → curved_name b (record { of = name; amount = name_total scale.Curved amounts name }) ≡ rule_name b amounts name
  curved_one name = ap (λ z. curved name z) (risk_by (b.terms).curvature name)

  pub curvature_is : curvature_of b (name_totals scale.Curved amounts) ≡ price_curvature_value b amounts
  curvature_is =
      ap (bucket_value (squared same_name (name_rho b)) one)
      (map-map (curved_name b) (λ name. record { of = name; amount = name_total scale.Curved amounts name }) (names_of amounts)
      ∙ maps_agree (λ name. curved_name b (record { of = name; amount = name_total scale.Curved amounts name })) (rule_name b amounts) curved_one (names_of amounts))
