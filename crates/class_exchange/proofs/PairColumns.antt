-- Sums of pairs that can be measured: what is known of them when they are weighed, and their correlations.
use Rattle.std.proofs.Common.{◌≡◌, ◌^◌, ◌*◌, ◌≤◌, List, [], map, length, refl, sym, ap, ◌∙◌, ℤ, pos, ◌≤ℤ◌, unsigned_abs, All, arith}
use Rattle.std.specs.List.{AllByRecursion}
use Rattle.std.proofs.lemmas.Int.{ints}
use Rattle.std.proofs.lemmas.List.{length-map}
use Rattle.std.proofs.lemmas.List.Elements.{All-from_recursion}
use Rattle.std.proofs.lemmas.Simd.{map-map}
use Rattle.measured_bucket.specs.SimmKinds.declared.currency_pair.CurrencyPair.{CurrencyPair}
use Rattle.measured_bucket.specs.SimmKinds.Order.{pair_cmp, same_pair}
use Rattle.measured_bucket.specs.SimmKinds.Pair.{Pair}
use Rattle.measured_bucket.specs.SimmRules.Params.{Params}
use Rattle.measured_bucket.specs.SimmRules.Lookups.{six}
use Rattle.measured_bucket.specs.SimmRules.Risks.{Amount}
use Rattle.measured_bucket.specs.SimmRules.Bucket.{Weighted}
use Rattle.measured_bucket.specs.SimmRules.ForeignExchange.{fx_sigma, fx_vega_threshold, pair_rho}
use Rattle.measured_bucket.specs.SimmParams.Facts.{IsParams, IsWeighed}
use Rattle.measured_bucket.specs.WeightedBucket.declared.weighed.Weighed.{Weighed}
use Rattle.measured_bucket.specs.declared.runs.TenorSum.{TenorSum}
use Rattle.measured_bucket.specs.declared.tenor_scale.TenorScale.{TenorScale}
use Rattle.measured_bucket.specs.declared.tenor_scale.TenorScale.TheVariants as scale
use Rattle.measured_bucket.specs.Measured.{AreCorrelated}
use Rattle.measured_bucket.specs.Runs.{AreTotals}
use Rattle.measured_bucket.specs.Values.{weighed_as, IsSmall}
use Rattle.measured_bucket.proofs.SimmParams.Sigmas.{sigma_low}
use Rattle.measured_bucket.proofs.Columns.{IsClose, IsColumn, column_of_close, is_column}
use Rattle.measured_bucket.proofs.Curved.{risk_close}
use Rattle.measured_bucket.proofs.Lists.{each_both, each_unmap, each_weaker}
use Rattle.measured_bucket.proofs.Sizes.{size_one, size_all, size_is, each_within}
use Rattle.measured_bucket.proofs.Valued.{correlated}
use Rattle.measured_bucket.proofs.Vegas.{vega_close}
use Rattle.class_exchange.specs.Pairs.{pair_sum, pair_sums, vega_pair, curved_sum, CanWeigh}
use Rattle.class_exchange.proofs.VolatilePairs.{pairs_total}

abbrev none : Amount Pair
none = record { of = record { first = []; second = [] }; amount = pos 0 }

module _ (p : Params) (nets : List (TenorSum CurrencyPair)) where
  -- as many as are weighed
  pub counted : (W : Amount Pair → Weighted Pair) (factors : List Weighed) → factors ≡ map (λ pair. weighed_as (W (pair_sum pair))) nets → length factors ≡ length nets
  counted W factors made = ap length made ∙ length-map nets (λ pair. weighed_as (W (pair_sum pair)))

  module _ (s : TenorScale) (are : AreTotals pair_cmp s (fx_sigma p) (pair_sums nets)) where
    pub pairs_correlated : (W : Amount Pair → Weighted Pair) → ((a : Amount Pair) → (W a).of ≡ a.of) → (rho : ℤ) → rho ≡ six p.fx.vol_rho → AreCorrelated same_pair (pair_rho p) (map W (pair_sums nets)) (λ _ _. rho)
    pairs_correlated W of_same rho is = correlated pair_cmp pairs_total same_pair (λ x y. refl) (pair_rho p) W of_same none (pair_sums nets) are.ascends (λ _ _. rho) (λ i j l m apart. is)

module _ (p : Params) (facts : IsParams p) (nets : List (TenorSum CurrencyPair)) where
  abbrev sums : List (Amount Pair)
  sums = pair_sums nets

  low : (pair : Pair) → pos 0 ≤ℤ fx_sigma p pair
  low = sigma_low p facts

  -- ---- vega

  module _ (thick : (pair : Pair) → IsWeighed (pos 10000) (fx_vega_threshold p pair)) (are : AreTotals pair_cmp scale.Even (fx_sigma p) (pair_sums nets)) where
    weighed_size : size_all (fx_sigma p) sums ≤ 10 ^ 17
    weighed_size = omega (arith, ints, are.weighed, size_is (fx_sigma p) low sums)

    abbrev IsSmallSum : Amount Pair → Type 0
    IsSmallSum a = IsSmall (fx_sigma p a.of) a.amount

    each_small : AllByRecursion (λ a. IsSmall (fx_sigma p a.of) a.amount) sums
    each_small = each_within (size_one (fx_sigma p)) (10 ^ 17) sums weighed_size

    pub can_weigh : All (CanWeigh p) nets
    can_weigh =
        All-from_recursion (CanWeigh p) nets
        (each_weaker (λ (n : TenorSum CurrencyPair). (unsigned_abs n.sum ≤ 2 * 10 ^ 20) × IsSmall (fx_sigma p n.of) n.sum) (CanWeigh p) (λ n both. record { size = both.0; small = both.1 }) nets
        (each_both (λ (n : TenorSum CurrencyPair). unsigned_abs n.sum ≤ 2 * 10 ^ 20) (λ n. IsSmall (fx_sigma p n.of) n.sum) nets
        (each_unmap (λ (a : Amount Pair). unsigned_abs a.amount ≤ 2 * 10 ^ 20) pair_sum nets are.each) (each_unmap IsSmallSum pair_sum nets each_small)))

    vegas_close : AllByRecursion (λ a. IsClose (10 ^ 10) 832799998 695 (fx_sigma p) a (weighed_as (vega_pair p a))) sums
    vegas_close =
        each_weaker IsSmallSum (λ a. IsClose (10 ^ 10) 832799998 695 (fx_sigma p) a (weighed_as (vega_pair p a)))
        (λ a small. vega_close (fx_sigma p) a p.fx.hvr p.fx.vrw (fx_vega_threshold p a.of) (facts.fx).hvr (facts.fx).vrw (thick a.of) small) sums each_small

    pub vega_column : (factors : List Weighed) → factors ≡ map (λ pair. weighed_as (vega_pair p (pair_sum pair))) nets → IsColumn (10 ^ 10) 832799998 695 (fx_sigma p) (pair_sums nets) (vega_pair p) factors
    vega_column factors made =
        column_of_close (10 ^ 10) 832799998 695 (fx_sigma p) low (vega_pair p) sums vegas_close (λ gross h. omega (arith, h, weighed_size, are.few)) factors
        (made ∙ sym (map-map (λ a. weighed_as (vega_pair p a)) pair_sum nets))

  -- ---- curvature

  module _ (are : AreTotals pair_cmp scale.Curved (fx_sigma p) (pair_sums nets)) where
    curved_size : size_all (fx_sigma p) sums ≤ 1095 * 10 ^ 18
    curved_size = omega (arith, ints, are.weighed, size_is (fx_sigma p) low sums)

    pub can_curve : All (λ pair. unsigned_abs pair.sum ≤ 219 * 10 ^ 22) nets
    can_curve = All-from_recursion (λ (n : TenorSum CurrencyPair). unsigned_abs n.sum ≤ 219 * 10 ^ 22) nets (each_unmap (λ (a : Amount Pair). unsigned_abs a.amount ≤ 219 * 10 ^ 22) pair_sum nets are.each)

    curved_close : (a : Amount Pair) → IsClose 219000000 1 1 (fx_sigma p) a (weighed_as (curved_sum p a))
    curved_close a = record { from_one = omega (arith, ints); below = omega (arith, ints); close = omega (arith, risk_close (fx_sigma p a.of) a.amount) }

    pub curved_column : (factors : List Weighed) → factors ≡ map (λ pair. weighed_as (curved_sum p (pair_sum pair))) nets → IsColumn 219000000 1 1 (fx_sigma p) (pair_sums nets) (curved_sum p) factors
    curved_column factors made =
        is_column 219000000 1 1 (fx_sigma p) low (curved_sum p) curved_close sums (λ gross h. omega (arith, h, curved_size, are.few)) factors
        (made ∙ sym (map-map (λ a. weighed_as (curved_sum p a)) pair_sum nets))
