-- The volatilities of a currency in range: the net of their concentration group, and what is known of them when they are weighed.
use Rattle.std.proofs.Common.{◌≡◌, ◌^◌, ℕ, ◌+◌, ◌*◌, ◌<◌, ◌≤◌, List, map, sym, ap, ◌∙◌, subst, ℤ, pos, ◌*ℤ◌, ◌≤ℤ◌, ◌<ℤ◌, unsigned_abs, All, arith, mul-le-mul_left, mul-le-mul_right}
use Rattle.std.specs.Prelude.{sum_by}
use Rattle.std.specs.List.{AllByRecursion}
use Rattle.std.specs.List.Sorted.{IsStrictlySortedBy}
use Rattle.std.proofs.lemmas.Int.{ints}
use Rattle.std.proofs.lemmas.List.Elements.{All-from_recursion}
use Rattle.std.proofs.lemmas.Simd.{map-map}
use Rattle.measured_bucket.specs.SimmKinds.declared.kinds.Tenor.{Tenor}
use Rattle.measured_bucket.specs.SimmRules.Params.{Params}
use Rattle.measured_bucket.specs.SimmRules.Sums.{total_by}
use Rattle.measured_bucket.specs.SimmRules.Risks.{RateVolatility, Amount}
use Rattle.measured_bucket.specs.SimmRules.Concentration.{one, cr}
use Rattle.measured_bucket.specs.SimmRules.Bucket.{Weighted}
use Rattle.measured_bucket.specs.SimmRules.Curvature.{scale_of, curved}
use Rattle.measured_bucket.specs.SimmRules.Rates.{VolatilityIn, rate_thresholds, rate_volatility_cr, rate_volatility_rho, same_rate_volatility, tenor_of, weighted_rate_volatility, curved_rate_volatility}
use Rattle.measured_bucket.specs.SimmParams.Facts.{IsWeighed}
use Rattle.measured_bucket.specs.SimmParams.Ranges.{vega_weights, IsWithin}
use Rattle.measured_bucket.proofs.FactorBook.Sums.{total_by-map}
use Rattle.measured_bucket.specs.WeightedBucket.declared.weighed.Weighed.{Weighed}
use Rattle.measured_bucket.specs.Explained.{weighted_from}
use Rattle.measured_bucket.specs.Measured.{AreCorrelated}
use Rattle.measured_bucket.specs.Risk.{risk_of}
use Rattle.measured_bucket.specs.Values.{alone, weighed_as}
use Rattle.measured_bucket.proofs.Columns.{IsClose, IsColumn, is_column}
use Rattle.measured_bucket.proofs.Curved.{with_risk, risk_alone, risk_close}
use Rattle.measured_bucket.proofs.Explaining.{made_by}
use Rattle.measured_bucket.proofs.Lists.{each_weaker, each_unmap, maps_agree}
use Rattle.measured_bucket.proofs.Scales.{scale_of-size, times_size}
use Rattle.measured_bucket.proofs.Sizes.{total_size, sum_by-map, sum_by-scaled, size_all, size_small, each_small}
use Rattle.measured_bucket.proofs.Thick.{net_thick, cr_size, cr_low, cr_below, weighted_close}
use Rattle.class_rates.specs.declared.volatilities.VolatilityNet.{VolatilityNet}
use Rattle.class_rates.specs.Volatilities.{volatility_cmp, rule_volatility, rule_net, with_currency, volatility_view, volatilities_view, group_net, weighed_by, curved_net, AreVolatilities}
use Rattle.class_rates.specs.Unweighed.{uncurved_volatility}
use Rattle.class_rates.specs.Rho.{no_volatility, volatility_rho_at}
use Rattle.class_rates.proofs.VolatilityPlaces.{volatility_total, volatility_tests}
use Rattle.class_rates.proofs.Columns.{of_own}
use Rattle.class_rates.proofs.Correlated.{nets_correlated}

-- the net of the group is the rule's
pub group_is : (currency : List ℕ) (nets : List VolatilityNet) → group_net nets ≡ total_by (λ a. a.amount) (volatilities_view currency nets)
group_is currency nets = sym (total_by-map (λ (a : Amount VolatilityIn). a.amount) (volatility_view currency) nets)

module _ (currency : List ℕ) (nets : List VolatilityNet) (are : AreVolatilities (volatilities_view currency nets)) where
  abbrev amounts : List (Amount VolatilityIn)
  amounts = volatilities_view currency nets

  small : size_all alone amounts ≤ 10 ^ 17
  small = size_small alone (λ x. omega (arith, ints)) amounts are.range

  sizes : sum_by (λ n. unsigned_abs n.net) nets * 10000 ≤ 10 ^ 17
  sizes =
      omega (
        arith,
        small,
        sum_by-scaled (λ (a : Amount VolatilityIn). unsigned_abs a.amount) 10000 amounts,
        sum_by-map (λ (a : Amount VolatilityIn). unsigned_abs a.amount) (volatility_view currency) nets,
      )

  pub sizes_small : sum_by (λ n. unsigned_abs n.net) nets ≤ 10 ^ 17
  sizes_small = omega (arith, sizes)

  each : AllByRecursion (λ n. unsigned_abs n.net * 10000 ≤ 10 ^ 17) nets
  each = each_unmap (λ (a : Amount VolatilityIn). unsigned_abs a.amount * 10000 ≤ 10 ^ 17) (volatility_view currency) nets (each_small alone (λ x. omega (arith, ints)) amounts are.range)

  -- ---- vega

  module _ (p : Params) (weighed : IsWeighed (pos 10000) (rate_thresholds p currency).vega) where
    abbrev threshold : ℤ
    threshold = (rate_thresholds p currency).vega

    pub vega_thick : unsigned_abs (group_net nets) ≤ 120000 * unsigned_abs (rate_thresholds p currency).vega
    vega_thick = net_thick (group_net nets) (pos 10000) threshold weighed (omega (arith, ints)) (omega (arith, mul-le-mul_right 10000 (total_size (λ (n : VolatilityNet). n.net) nets), sizes))

    pub cr_is : cr (group_net nets) (rate_thresholds p currency).vega ≡ rate_volatility_cr p currency (volatilities_view currency nets)
    cr_is = ap (λ z. cr z threshold) (group_is currency nets)

    own_cr-size : unsigned_abs (rate_volatility_cr p currency amounts) ≤ 346999999
    own_cr-size = subst (λ z. unsigned_abs z ≤ 346999999) cr_is (cr_size (group_net nets) threshold weighed.threshold_low vega_thick)

    pub view_cr-low : one ≤ℤ rate_volatility_cr p currency (volatilities_view currency nets)
    view_cr-low = cr_low (total_by (λ a. a.amount) amounts) threshold

    pub view_cr-high : rate_volatility_cr p currency (volatilities_view currency nets) <ℤ pos 347000000
    view_cr-high = cr_below (rate_volatility_cr p currency amounts) own_cr-size

    -- by a vega risk weight, which is at most 2
    module _ (within : IsWithin vega_weights p.ir.vrw) where
      weight_most : unsigned_abs p.ir.vrw ≤ 20000
      weight_most = omega (arith, ints, within.low, within.high)

      pub vega_small : All (λ n. unsigned_abs n.net * unsigned_abs p.ir.vrw ≤ 10 ^ 28) nets
      vega_small =
          All-from_recursion (λ (n : VolatilityNet). unsigned_abs n.net * unsigned_abs p.ir.vrw ≤ 10 ^ 28) nets
          (each_weaker (λ (n : VolatilityNet). unsigned_abs n.net * 10000 ≤ 10 ^ 17) (λ n. unsigned_abs n.net * unsigned_abs p.ir.vrw ≤ 10 ^ 28) (λ n h. omega (arith, h, mul-le-mul_left (unsigned_abs n.net) weight_most)) nets each)

      vega_close : (a : Amount VolatilityIn) → IsClose (10 ^ 10) 693999998 1 alone a (weighed_as (weighted_rate_volatility p (rate_volatility_cr p currency amounts) a))
      vega_close a = record {
        from_one = view_cr-low;
        below = view_cr-high;
        close = omega (arith, weighted_close p.ir.vrw a.amount (rate_volatility_cr p currency amounts) own_cr-size, mul-le-mul_left (unsigned_abs a.amount) weight_most);
      }

      pub vega_column : (c : ℤ) (factors : List Weighed) → factors ≡ map (weighed_by p.ir.vrw c) nets → c ≡ rate_volatility_cr p currency (volatilities_view currency nets)
          → IsColumn (10 ^ 10) 693999998 1 alone (volatilities_view currency nets) (of_own (weighted_rate_volatility p (rate_volatility_cr p currency (volatilities_view currency nets)))) factors
      vega_column c factors made is =
          let own = rate_volatility_cr p currency amounts in
          is_column (10 ^ 10) 693999998 1 alone (λ x. omega (arith, ints)) (of_own (weighted_rate_volatility p own)) vega_close amounts (λ gross h. omega (arith, h, small, are.range.few)) factors
          (made ∙ ap (λ z. map (weighed_by p.ir.vrw z) nets) is ∙ sym (map-map (λ a. weighed_as (weighted_rate_volatility p own a)) (volatility_view currency) nets))

  -- ---- curvature

  pub nets_small : All (λ n. unsigned_abs n.net ≤ 2 * 10 ^ 20) nets
  nets_small =
      All-from_recursion (λ (n : VolatilityNet). unsigned_abs n.net ≤ 2 * 10 ^ 20) nets
      (each_weaker (λ (n : VolatilityNet). unsigned_abs n.net * 10000 ≤ 10 ^ 17) (λ n. unsigned_abs n.net ≤ 2 * 10 ^ 20) (λ n h. omega (arith, h)) nets each)

  net_risk : (n : VolatilityNet) → curved_net n ≡ weighed_as (curved_rate_volatility (volatility_view currency n))
  net_risk n = ap with_risk (risk_alone (pos 10000) (tenor_of (rule_volatility n.volatility)) n.net)

  scaled_close : (t : Tenor) (x : ℤ) → unsigned_abs (risk_of (pos 10000) (scale_of t *ℤ x)) * 20000 ≤ unsigned_abs x * 10000 + 20000
  scaled_close t x = omega (arith, risk_close (pos 10000) (scale_of t *ℤ x), times_size (scale_of t) x 10950 (scale_of-size t))

  curved_close : (a : Amount VolatilityIn) → IsClose 20000 1 1 alone a (weighed_as (curved_rate_volatility a))
  curved_close a = record {
    from_one = omega (arith, ints);
    below = omega (arith, ints);
    close = subst (λ z. unsigned_abs z * 20000 ≤ unsigned_abs a.amount * 10000 * 1 + 1 * 20000) (risk_alone (pos 10000) (tenor_of (a.of).volatility) a.amount) (omega (arith, scaled_close (tenor_of (a.of).volatility) a.amount));
  }

  pub curved_column : (factors : List Weighed) → factors ≡ map curved_net nets → IsColumn 20000 1 1 alone (volatilities_view currency nets) (of_own curved_rate_volatility) factors
  curved_column factors made =
      is_column 20000 1 1 alone (λ x. omega (arith, ints)) (of_own curved_rate_volatility) curved_close amounts (λ gross h. omega (arith, h, small, are.range.few)) factors
      (made ∙ maps_agree curved_net (λ n. weighed_as (curved_rate_volatility (volatility_view currency n))) net_risk nets
      ∙ sym (map-map (λ a. weighed_as (curved_rate_volatility a)) (volatility_view currency) nets))

-- ---- what their curvature risks are weighed from

pub curved_made : (volatilities : List (Amount VolatilityIn)) → map curved_rate_volatility volatilities ≡ map (weighted_from (λ weight amount cr. risk_of weight amount)) (map uncurved_volatility volatilities)
curved_made volatilities =
    made_by (λ weight amount cr. risk_of weight amount) uncurved_volatility curved_rate_volatility
    (λ a. sym (ap (curved (a.of).volatility) (risk_alone (pos 10000) (tenor_of (a.of).volatility) a.amount))) volatilities

-- ---- their correlations, whichever way they are weighed

pub volatilities_correlated : (p : Params) (currency : List ℕ) (W : Amount VolatilityIn → Weighted RateVolatility) → ((a : Amount VolatilityIn) → (W a).of ≡ (a.of).volatility) → (nets : List VolatilityNet) → AreVolatilities (volatilities_view currency nets)
    → AreCorrelated same_rate_volatility (rate_volatility_rho p) (map W (volatilities_view currency nets)) (volatility_rho_at p nets)
volatilities_correlated p currency W of_same nets are =
    subst (λ fs. AreCorrelated same_rate_volatility (rate_volatility_rho p) fs (volatility_rho_at p nets))
    (map-map (λ a. W (with_currency currency a)) rule_net nets ∙ sym (map-map W (volatility_view currency) nets))
    (nets_correlated volatility_cmp volatility_total same_rate_volatility volatility_tests (rate_volatility_rho p) rule_net (λ a. W (with_currency currency a)) (λ a. of_same (with_currency currency a)) no_volatility nets
    (subst (IsStrictlySortedBy volatility_cmp) (map-map (λ (a : Amount VolatilityIn). (a.of).volatility) (volatility_view currency) nets ∙ sym (map-map (λ (a : Amount RateVolatility). a.of) rule_net nets)) are.ascends))
