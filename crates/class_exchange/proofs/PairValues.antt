-- The factors that are made of the sums of the pairs are the rule's.
use Rattle.std.proofs.Common.{◌≡◌, ℕ, ◌+◌, ◌*◌, ◌≤◌, List, map, length, ap, ◌∙◌, subst}
use Rattle.std.proofs.lemmas.List.{length-map}
use Rattle.std.proofs.lemmas.Simd.{map-map}
use Rattle.measured_bucket.specs.SimmKinds.Pair.{Pair}
use Rattle.measured_bucket.specs.SimmRules.Params.{Params}
use Rattle.measured_bucket.specs.SimmRules.Risks.{Amount}
use Rattle.measured_bucket.specs.SimmRules.Bucket.{Weighted}
use Rattle.measured_bucket.specs.SimmRules.Curvature.{curved}
use Rattle.measured_bucket.specs.SimmRules.ForeignExchange.{PairVolatility, fx_sigma, pairs_of, pair_tenors, weighted_pair, curved_pair}
use Rattle.measured_bucket.specs.declared.tenor_scale.TenorScale.{TenorScale}
use Rattle.measured_bucket.specs.declared.tenor_scale.TenorScale.TheVariants as scale
use Rattle.measured_bucket.proofs.Curved.{risk_is}
use Rattle.measured_bucket.proofs.Lists.{maps_agree}
use Rattle.measured_bucket.proofs.OverTenors.{net-even}
use Rattle.class_exchange.specs.Pairs.{pair_total, pair_totals, vega_pair, curved_sum}
use Rattle.class_exchange.proofs.VolatilePairs.{pairs}

module _ (amounts : List (Amount PairVolatility)) where
  abbrev total_of : TenorScale → Pair → Amount Pair
  total_of s pair = record { of = pair; amount = pair_total s amounts pair }

  pub vega_is : (p : Params) → map (vega_pair p) (pair_totals scale.Even amounts) ≡ map (weighted_pair p amounts) (pairs_of amounts)
  vega_is p =
      map-map (vega_pair p) (total_of scale.Even) (pairs_of amounts)
      ∙ maps_agree (λ pair. vega_pair p (total_of scale.Even pair)) (weighted_pair p amounts) (λ pair. ap (λ z. vega_pair p (record { of = pair; amount = z })) (net-even pairs amounts pair)) (pairs_of amounts)

  pub curvature_is : (p : Params) → map (curved_sum p) (pair_totals scale.Curved amounts) ≡ map (curved_pair p amounts) (pairs_of amounts)
  curvature_is p =
      map-map (curved_sum p) (total_of scale.Curved) (pairs_of amounts)
      ∙ maps_agree (λ pair. curved_sum p (total_of scale.Curved pair)) (curved_pair p amounts) (λ pair. ap (curved pair) (risk_is (fx_sigma p pair) (pair_tenors amounts pair))) (pairs_of amounts)

  -- as many steps as there are pairs, squared
  pub pairs_counted : (W : Amount Pair → Weighted Pair) (s : TenorScale) (old new : ℕ) (sums : List (Amount Pair)) → sums ≡ pair_totals s amounts → new ≤ old + length (map W sums) * length (map W sums) → new ≤ old + length (pairs_of amounts) * length (pairs_of amounts)
  pairs_counted W s old new sums there h = subst (λ n. new ≤ old + n * n) (length-map sums W ∙ ap length there ∙ length-map (pairs_of amounts) (total_of s)) h
