-- The factors that are made of the sums of names, and of pairs of currencies, over tenors are the rule's.
use Rattle.std.proofs.Common.{◌≡◌, ℕ, List, map, Bool, true, false, if◌then◌else◌, ap, ◌∙◌, ℤ, pos}
use Rattle.std.proofs.lemmas.Simd.{map-map}
use Rattle.measured_bucket.specs.SimmKinds.Pair.{Pair}
use Rattle.measured_bucket.specs.SimmRules.Params.{Params, PricedBucket}
use Rattle.measured_bucket.specs.SimmRules.Risks.{Amount}
use Rattle.measured_bucket.specs.SimmRules.Curvature.{curved, curvature_risk}
use Rattle.measured_bucket.specs.SimmRules.Priced.{NameVolatility, names_of, tenors_of, weighted_name, price_vega_risk, curved_name as rule_name}
use Rattle.measured_bucket.specs.SimmRules.ForeignExchange.{PairVolatility, pairs_of}
use Rattle.measured_bucket.specs.declared.tenor_scale.TenorScale.{TenorScale}
use Rattle.measured_bucket.specs.declared.tenor_scale.TenorScale.TheVariants as scale
use Rattle.measured_bucket.specs.Risk.{risk_of}
use Rattle.measured_bucket.proofs.Curved.{risk_is, risk_none}
use Rattle.measured_bucket.proofs.Lists.{maps_agree}
use Rattle.measured_bucket.proofs.OverTenors.{net-even}
use Rattle.class_priced.specs.Sums.{name_total, name_totals}
use Rattle.class_priced.specs.Unweighed.{unweighed_vega, uncurved_name}
use Rattle.class_priced.specs.Weights.{curved_name, vega_name}
use Rattle.class_priced.proofs.VolatileNames.{names}
use Rattle.class_exchange.specs.Pairs.{pair_total, pair_totals}
use Rattle.class_exchange.specs.Unweighed.{unweighed_pair, uncurved_pair}
use Rattle.class_exchange.proofs.VolatilePairs.{pairs}
use Rattle.explain_text.specs.Factors.{vega_of_name, curvature_of_name, vega_of_pair, curvature_of_pair}

-- ---- names

module _ (b : PricedBucket) (amounts : List (Amount NameVolatility)) where
  abbrev name_sum : TenorScale → List ℕ → Amount (List ℕ)
  name_sum s name = record { of = name; amount = name_total s amounts name }

  pub names_from : (hvr : ℤ) → map (unweighed_vega hvr b) (name_totals scale.Even amounts) ≡ map (vega_of_name hvr b amounts) (names_of amounts)
  names_from hvr =
      map-map (unweighed_vega hvr b) (name_sum scale.Even) (names_of amounts)
      ∙ maps_agree (λ name. unweighed_vega hvr b (name_sum scale.Even name)) (vega_of_name hvr b amounts) (λ name. ap (λ z. unweighed_vega hvr b (record { of = name; amount = z })) (net-even names amounts name)) (names_of amounts)

  pub names_weighted : (hvr : ℤ) → map (vega_name hvr b) (name_totals scale.Even amounts)
      ≡ map (λ name. weighted_name (b.terms).vrw ((b.terms).thresholds).vega name (price_vega_risk hvr b.sigma (tenors_of amounts name))) (names_of amounts)
  names_weighted hvr =
      map-map (vega_name hvr b) (name_sum scale.Even) (names_of amounts)
      ∙ maps_agree (λ name. vega_name hvr b (name_sum scale.Even name)) (λ name. weighted_name (b.terms).vrw ((b.terms).thresholds).vega name (price_vega_risk hvr b.sigma (tenors_of amounts name)))
      (λ name. ap (λ z. vega_name hvr b (record { of = name; amount = z })) (net-even names amounts name)) (names_of amounts)

  pub names_uncurved : map (uncurved_name b) (name_totals scale.Curved amounts) ≡ map (curvature_of_name b amounts) (names_of amounts)
  names_uncurved = map-map (uncurved_name b) (name_sum scale.Curved) (names_of amounts)

  risk_by : (curvature : Bool) (name : List ℕ) → risk_of (if curvature then b.sigma else pos 0) (name_total scale.Curved amounts name) ≡ (if curvature then curvature_risk b.sigma (tenors_of amounts name) else pos 0)
  risk_by true name = risk_is b.sigma (tenors_of amounts name)
  risk_by false name = risk_none (name_total scale.Curved amounts name)

  pub names_curved : map (curved_name b) (name_totals scale.Curved amounts) ≡ map (rule_name b amounts) (names_of amounts)
  names_curved =
      map-map (curved_name b) (name_sum scale.Curved) (names_of amounts)
      ∙ maps_agree (λ name. curved_name b (name_sum scale.Curved name)) (rule_name b amounts) (λ name. ap (curved name) (risk_by (b.terms).curvature name)) (names_of amounts)

-- ---- pairs

module _ (p : Params) (amounts : List (Amount PairVolatility)) where
  abbrev pair_sum : TenorScale → Pair → Amount Pair
  pair_sum s pair = record { of = pair; amount = pair_total s amounts pair }

  pub pairs_from : map (unweighed_pair p) (pair_totals scale.Even amounts) ≡ map (vega_of_pair p amounts) (pairs_of amounts)
  pairs_from =
      map-map (unweighed_pair p) (pair_sum scale.Even) (pairs_of amounts)
      ∙ maps_agree (λ pair. unweighed_pair p (pair_sum scale.Even pair)) (vega_of_pair p amounts) (λ pair. ap (λ z. unweighed_pair p (record { of = pair; amount = z })) (net-even pairs amounts pair)) (pairs_of amounts)

  pub pairs_uncurved : map (uncurved_pair p) (pair_totals scale.Curved amounts) ≡ map (curvature_of_pair p amounts) (pairs_of amounts)
  pairs_uncurved = map-map (uncurved_pair p) (pair_sum scale.Curved) (pairs_of amounts)
