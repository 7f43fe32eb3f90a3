-- The rates of a currency in range: the net of their concentration group, and what is known of them when they are weighed.
use Rattle.std.proofs.Common.{◌≡◌, ◌^◌, ℕ, ◌+◌, ◌*◌, ◌≤◌, List, [], ◌∷◌, map, Bool, true, false, not, cond, if◌then◌else◌, Option, Some, None, refl, sym, ap, ◌∙◌, subst, ℤ, pos, negsuc, ◌+ℤ◌, ◌≤ℤ◌, ◌<ℤ◌, unsigned_abs, All, arith, mul-le-mul_left, mul-le-mul_right}
use Rattle.std.specs.Prelude.{sum_by}
use Rattle.std.specs.List.{filter, AllByRecursion}
use Rattle.std.specs.List.Sorted.{IsStrictlySortedBy}
use Rattle.std.proofs.Math.IntN.{+ℤ_idl}
use Rattle.std.proofs.lemmas.Int.{ints}
use Rattle.std.proofs.lemmas.List.Elements.{All-from_recursion}
use Rattle.std.proofs.lemmas.Simd.{map-map}
use Rattle.measured_bucket.specs.SimmKinds.Order.{tenor_place}
use Rattle.measured_bucket.specs.SimmRules.Params.{Params}
use Rattle.measured_bucket.specs.SimmRules.Lookups.{at_place}
use Rattle.measured_bucket.specs.SimmRules.Sums.{total_by}
use Rattle.measured_bucket.specs.SimmRules.Risks.{Amount, Curve, Inflation, Basis}
use Rattle.measured_bucket.specs.SimmRules.Risks.{Rate as RuleRate}
use Rattle.measured_bucket.specs.SimmRules.Concentration.{one, cr}
use Rattle.measured_bucket.specs.SimmRules.Bucket.{Weighted, weighted_value}
use Rattle.measured_bucket.specs.SimmRules.Rates.{RateIn, is_basis, curve_weights, rate_weight, rate_thresholds, rate_cr, rate_rho, same_rate, weighted_rate}
use Rattle.measured_bucket.specs.SimmParams.Facts.{IsWeighed}
use Rattle.measured_bucket.specs.SimmParams.Weighed.{AreRatesWeighed}
use Rattle.measured_bucket.specs.SimmParams.RateLookups.{category_curve}
use Rattle.measured_bucket.specs.SimmParams.declared.category.CurveCategory.{CurveCategory}
use Rattle.measured_bucket.specs.WeightedBucket.declared.weighed.Weighed.{Weighed}
use Rattle.measured_bucket.specs.declared.weighing.Group.{Group}
use Rattle.measured_bucket.specs.declared.weighing.Weighing.{Weighing}
use Rattle.measured_bucket.specs.Explained.{Unweighed, weighted_from}
use Rattle.measured_bucket.specs.Measured.{AreCorrelated}
use Rattle.measured_bucket.specs.Values.{weighed_as, IsInRange}
use Rattle.measured_bucket.proofs.Columns.{IsClose, IsColumn, is_column}
use Rattle.measured_bucket.proofs.Explaining.{made_by, listed_by}
use Rattle.measured_bucket.proofs.Lists.{each_always, each_weaker, each_map, each_unmap, maps_agree}
use Rattle.measured_bucket.proofs.Sizes.{total_size, sum_by-map, sum_by-below, sum_by-scaled, size_one, size_all, size_small, each_small, not_negative}
use Rattle.measured_bucket.proofs.Thick.{cr_size, cr_low, cr_below, weighted_close}
use Rattle.class_rates.specs.declared.rate.Rate.{Rate}
use Rattle.class_rates.specs.declared.rate.Rate.TheVariants as rate
use Rattle.class_rates.specs.declared.rates.RateNet.{RateNet}
use Rattle.class_rates.specs.Rates.{rate_cmp, rule_rate, rule_net, with_currency, rate_view, rates_view, AreRates}
use Rattle.class_rates.specs.Weighing.{group_part, group_net, weight_in, cr_of, weighed_in}
use Rattle.class_rates.specs.Unweighed.{rates_group, rate_from, unweighed_rate, weighing_in}
use Rattle.class_rates.specs.Rho.{no_rate, rho_at}
use Rattle.class_rates.proofs.RatePlaces.{rate_total, rate_tests}
use Rattle.class_rates.proofs.Columns.{of_own}
use Rattle.class_rates.proofs.Correlated.{nets_correlated}

-- ---- the concentration group

pub part_size : (n : RateNet) → unsigned_abs (group_part n) ≤ unsigned_abs n.net
part_size n = by (is_basis (rule_rate n.rate))
  where
    by : (t : Bool) → unsigned_abs (if t then pos 0 else n.net) ≤ unsigned_abs n.net
    by true = omega arith
    by false = omega arith

-- its net is the rule's
pub group_is : (currency : List ℕ) (nets : List RateNet) → group_net nets ≡ total_by (λ a. a.amount) (filter (λ a. not (is_basis (a.of).rate)) (rates_view currency nets))
group_is currency [] = refl
group_is currency (n ∷ nets) = ap (λ z. group_part n +ℤ z) (group_is currency nets) ∙ sym (kept (is_basis (rule_rate n.rate)))
  where
    rest : List (Amount RateIn)
    rest = filter (λ a. not (is_basis (a.of).rate)) (rates_view currency nets)

    kept : (t : Bool) → total_by (λ a. a.amount) (cond (not t) (rate_view currency n ∷ rest) rest) ≡ (if t then pos 0 else n.net) +ℤ total_by (λ a. a.amount) rest
    kept true = omega (arith, ints)
    kept false = refl

-- a weight that is not 0, beside a threshold
thick_pair : (w t : ℤ) → IsWeighed w t → pos 1 ≤ℤ w → 10 ^ 12 ≤ unsigned_abs w * unsigned_abs t
thick_pair (pos w) (pos t) its some = omega (arith, ints, its.thick (omega (arith, ints)))
thick_pair (negsuc w) t its some = absurd some.le
thick_pair (pos w) (negsuc t) its some = absurd its.threshold_low.le

module _ (p : Params) (weighed : (currency : List ℕ) → AreRatesWeighed p currency) where
  pub weight_positive : (r : RateIn) → pos 0 ≤ℤ rate_weight p r
  weight_positive r = omega (arith, ints, ((weighed r.currency).weight r.rate).low)

  weight_some : (r : RateIn) → 1 ≤ unsigned_abs (rate_weight p r)
  weight_some r = omega (arith, ints, not_negative (rate_weight p r) (weight_positive r), ((weighed r.currency).weight r.rate).low)

  -- nets are no greater than their weighted sizes
  nets_within : (rates : List (Amount RateIn)) → sum_by (λ a. unsigned_abs a.amount) rates ≤ size_all (rate_weight p) rates
  nets_within rates =
      sum_by-below (λ a. unsigned_abs a.amount) (size_one (rate_weight p)) rates
      (each_always (λ a. unsigned_abs a.amount ≤ size_one (rate_weight p) a) (λ a. omega (arith, mul-le-mul_left (unsigned_abs a.amount) (weight_some a.of))) rates)

  module _ (currency : List ℕ) where
    abbrev threshold : ℤ
    threshold = (rate_thresholds p currency).delta

    abbrev pub IsOwn : Amount RateIn → Type 0
    IsOwn a = (a.of).currency ≡ currency

    -- the part of the group's net
    abbrev part : Amount RateIn → ℤ
    part a = if is_basis (a.of).rate then pos 0 else a.amount

    part_thick : (a : Amount RateIn) → IsOwn a → unsigned_abs (part a) * 10 ^ 12 ≤ size_one (rate_weight p) a * unsigned_abs threshold
    part_thick a own = by (is_basis (a.of).rate) refl
      where
        by : (t : Bool) → is_basis (a.of).rate ≡ t → unsigned_abs (if t then pos 0 else a.amount) * 10 ^ 12 ≤ size_one (rate_weight p) a * unsigned_abs threshold
        by true e = omega arith
        by false e =
            let its : IsWeighed (rate_weight p a.of) threshold = subst (λ c. IsWeighed (rate_weight p (record { currency = c; rate = (a.of).rate })) threshold) (sym own) ((weighed currency).delta (a.of).rate e) in
            let thick = thick_pair (rate_weight p a.of) threshold its ((weighed (a.of).currency).weight (a.of).rate).low in
            omega (arith, mul-le-mul_left (unsigned_abs a.amount) thick)

    group_total : (rates : List (Amount RateIn)) → total_by (λ a. a.amount) (filter (λ a. not (is_basis (a.of).rate)) rates) ≡ total_by part rates
    group_total [] = refl
    group_total (a ∷ rates) = by (is_basis (a.of).rate) (group_total rates)
      where
        others : List (Amount RateIn)
        others = filter (λ x. not (is_basis (x.of).rate)) rates

        by : (t : Bool) → total_by (λ x. x.amount) others ≡ total_by part rates → total_by (λ x. x.amount) (cond (not t) (a ∷ others) others) ≡ (if t then pos 0 else a.amount) +ℤ total_by part rates
        by true i = i ∙ sym (+ℤ_idl (total_by part rates))
        by false i = ap (λ z. a.amount +ℤ z) i

    module _ (rates : List (Amount RateIn)) (own : AllByRecursion (λ a. (a.of).currency ≡ currency) rates) (range : IsInRange (rate_weight p) rates) where
      small : size_all (rate_weight p) rates ≤ 10 ^ 17
      small = size_small (rate_weight p) weight_positive rates range

      -- the net of the group is at most 100,000 thresholds
      group_thick : unsigned_abs (total_by (λ a. a.amount) (filter (λ a. not (is_basis (a.of).rate)) rates)) ≤ 120000 * unsigned_abs threshold
      group_thick =
          let natural = λ (a : Amount RateIn). unsigned_abs (part a) in
          let scaled : sum_by natural rates * 10 ^ 12 ≤ size_all (rate_weight p) rates * unsigned_abs threshold =
          omega (
            arith,
            sum_by-scaled natural (10 ^ 12) rates,
            sum_by-scaled (size_one (rate_weight p)) (unsigned_abs threshold) rates,
            sum_by-below (λ a. natural a * 10 ^ 12) (λ a. size_one (rate_weight p) a * unsigned_abs threshold) rates (each_weaker IsOwn (λ a. natural a * 10 ^ 12 ≤ size_one (rate_weight p) a * unsigned_abs threshold) part_thick rates own),
          ) in
          let bounded : size_all (rate_weight p) rates * unsigned_abs threshold ≤ 10 ^ 17 * unsigned_abs threshold = mul-le-mul_right (unsigned_abs threshold) small in
          let most : unsigned_abs (total_by part rates) ≤ 120000 * unsigned_abs threshold = omega (arith, total_size part rates) in
          subst (λ z. unsigned_abs z ≤ 120000 * unsigned_abs threshold) (sym (group_total rates)) most

      abbrev own_cr : ℤ
      own_cr = rate_cr p currency rates

      own_cr-size : unsigned_abs (rate_cr p currency rates) ≤ 346999999
      own_cr-size = cr_size (total_by (λ a. a.amount) (filter (λ a. not (is_basis (a.of).rate)) rates)) threshold ((weighed currency).delta Inflation refl).threshold_low group_thick

      pub own_cr-low : one ≤ℤ rate_cr p currency rates
      own_cr-low = cr_low (total_by (λ a. a.amount) (filter (λ a. not (is_basis (a.of).rate)) rates)) threshold

      pub own_cr-high : rate_cr p currency rates <ℤ pos 347000000
      own_cr-high = cr_below own_cr own_cr-size

      -- ---- weighed

      chosen_size : (t : Bool) → unsigned_abs (if t then one else own_cr) ≤ 346999999
      chosen_size true = omega arith
      chosen_size false = own_cr-size

      chosen_low : (t : Bool) → one ≤ℤ (if t then one else own_cr)
      chosen_low true = omega (arith, ints)
      chosen_low false = own_cr-low

      close : (a : Amount RateIn) → IsClose (10 ^ 10) 346999999 1 (rate_weight p) a (weighed_as (weighted_rate p own_cr a))
      close a = record {
        from_one = chosen_low (is_basis (a.of).rate);
        below = cr_below (if is_basis (a.of).rate then one else own_cr) (chosen_size (is_basis (a.of).rate));
        close = omega (arith, weighted_close (rate_weight p a.of) a.amount (if is_basis (a.of).rate then one else own_cr) (chosen_size (is_basis (a.of).rate)));
      }

      pub rates_column : (factors : List Weighed) → factors ≡ map (λ a. weighed_as (weighted_rate p (rate_cr p currency rates) a)) rates → IsColumn (10 ^ 10) 346999999 1 (rate_weight p) rates (of_own (weighted_rate p (rate_cr p currency rates))) factors
      rates_column factors made = is_column (10 ^ 10) 346999999 1 (rate_weight p) weight_positive (of_own (weighted_rate p own_cr)) close rates (λ gross h. omega (arith, h, small, range.few)) factors made

    -- ---- as the code has them

    module _ (nets : List RateNet) (are : AreRates p (rates_view currency nets)) where
      abbrev rates : List (Amount RateIn)
      rates = rates_view currency nets

      all_own : AllByRecursion (λ a. (a.of).currency ≡ currency) (rates_view currency nets)
      all_own = each_map IsOwn (rate_view currency) nets (each_always (λ n. IsOwn (rate_view currency n)) (λ n. refl) nets)

      pub sizes_small : sum_by (λ n. unsigned_abs n.net) nets ≤ 10 ^ 17
      sizes_small = omega (arith, small rates all_own are.range, nets_within rates, sum_by-map (λ (a : Amount RateIn). unsigned_abs a.amount) (rate_view currency) nets)

      pub threshold_low : pos 1 ≤ℤ (rate_thresholds p currency).delta
      threshold_low = ((weighed currency).delta Inflation refl).threshold_low

      pub threshold_high : (rate_thresholds p currency).delta ≤ℤ pos (10 ^ 15)
      threshold_high = ((weighed currency).delta Inflation refl).threshold_high

      pub net_thick : unsigned_abs (group_net nets) ≤ 120000 * unsigned_abs (rate_thresholds p currency).delta
      net_thick = subst (λ z. unsigned_abs z ≤ 120000 * unsigned_abs threshold) (sym (group_is currency nets)) (group_thick rates all_own are.range)

      pub cr_is : cr (group_net nets) (rate_thresholds p currency).delta ≡ rate_cr p currency (rates_view currency nets)
      cr_is = ap (λ z. cr z threshold) (group_is currency nets)

      pub view_cr-low : one ≤ℤ rate_cr p currency (rates_view currency nets)
      view_cr-low = own_cr-low rates all_own are.range

      pub view_cr-high : rate_cr p currency (rates_view currency nets) <ℤ pos 347000000
      view_cr-high = own_cr-high rates all_own are.range

      -- by the category of the currency
      module _ (category : CurveCategory) (curve : category_curve p category ≡ curve_weights p currency) where
        weight_is : (r : Rate) → weight_in p category r ≡ rate_weight p (record { currency = currency; rate = rule_rate r })
        weight_is (rate.Curve t s) = ap (λ ws. at_place ws (tenor_place t)) curve
        weight_is rate.Inflation = refl
        weight_is rate.Basis = refl

        -- what a rate is weighed from
        weighing_is : (group : Group) (n : RateNet) → weighing_in p category group n ≡ (unweighed_rate p group (rate_view currency n)).from
        weighing_is group n = ap (λ w. rate_from group (rule_rate n.rate) w n.net) (weight_is n.rate)

        pub weighings_are : (group : Group) (weighings : List Weighing) → weighings ≡ map (weighing_in p category group) nets → weighings ≡ map (λ f. f.from) (map (unweighed_rate p group) (rates_view currency nets))
        weighings_are group weighings made =
            listed_by (unweighed_rate p group) (rate_view currency) nets weighings
            (made ∙ maps_agree (weighing_in p category group) (λ n. (unweighed_rate p group (rate_view currency n)).from) (weighing_is group) nets)

        weighed_is : (c : ℤ) (n : RateNet) → weighed_in p category c n ≡ weighed_as (weighted_rate p c (rate_view currency n))
        weighed_is c n = ap with_weight (weight_is n.rate)
          where
            with_weight : ℤ → Weighed
            with_weight w = record { w = weighted_value w n.net (cr_of c n.rate); cr = record { 0 = cr_of c n.rate } }

        pub nets_small : All (λ n. unsigned_abs n.net * unsigned_abs (weight_in p category n.rate) ≤ 10 ^ 17) nets
        nets_small =
            All-from_recursion (λ (n : RateNet). unsigned_abs n.net * unsigned_abs (weight_in p category n.rate) ≤ 10 ^ 17) nets
            (each_weaker (λ (n : RateNet). size_one (rate_weight p) (rate_view currency n) ≤ 10 ^ 17) (λ n. unsigned_abs n.net * unsigned_abs (weight_in p category n.rate) ≤ 10 ^ 17)
            (λ n h. subst (λ w. unsigned_abs n.net * unsigned_abs w ≤ 10 ^ 17) (sym (weight_is n.rate)) h) nets
            (each_unmap (λ (a : Amount RateIn). size_one (rate_weight p) a ≤ 10 ^ 17) (rate_view currency) nets (each_small (rate_weight p) weight_positive rates are.range)))

        pub nets_column : (c : ℤ) (factors : List Weighed) → factors ≡ map (weighed_in p category c) nets → c ≡ rate_cr p currency (rates_view currency nets)
            → IsColumn (10 ^ 10) 346999999 1 (rate_weight p) (rates_view currency nets) (of_own (weighted_rate p (rate_cr p currency (rates_view currency nets)))) factors
        nets_column c factors made is =
            let own = rate_cr p currency rates in
            rates_column rates all_own are.range factors
            (made ∙ ap (λ z. map (weighed_in p category z) nets) is ∙ maps_agree (weighed_in p category own) (λ n. weighed_as (weighted_rate p own (rate_view currency n))) (weighed_is own) nets
            ∙ sym (map-map (λ a. weighed_as (weighted_rate p own a)) (rate_view currency) nets))

-- ---- what they are weighed from

abbrev weighed_at : Params → Amount RateIn → ℤ → Weighted RuleRate
weighed_at p a c = record { of = (a.of).rate; w = weighted_value (rate_weight p a.of) a.amount c; cr = c }

abbrev unweighed_at : Params → Amount RateIn → Option Group → Unweighed RuleRate
unweighed_at p a group = record { of = (a.of).rate; from = record { amount = a.amount; group = group; weight = record { 0 = rate_weight p a.of } } }

pub rates_made : (p : Params) (currency : List ℕ) (rates : List (Amount RateIn))
    → map (weighted_rate p (rate_cr p currency rates)) rates ≡ map (weighted_from weighted_value) (map (unweighed_rate p (rates_group p currency rates)) rates)
rates_made p currency rates = made_by weighted_value (unweighed_rate p (rates_group p currency rates)) (weighted_rate p (rate_cr p currency rates)) (λ a. by (is_basis (a.of).rate) a) rates
  where
    by : (t : Bool) (a : Amount RateIn) → weighed_at p a (if t then one else rate_cr p currency rates) ≡ weighted_from weighted_value (unweighed_at p a (if t then None else Some (rates_group p currency rates)))
    by true a = refl
    by false a = refl

-- ---- their correlations

pub rates_correlated : (p : Params) (currency : List ℕ) (c : ℤ) (nets : List RateNet) → AreRates p (rates_view currency nets) → AreCorrelated same_rate (rate_rho p) (map (weighted_rate p c) (rates_view currency nets)) (rho_at p nets)
rates_correlated p currency c nets are =
    subst (λ fs. AreCorrelated same_rate (rate_rho p) fs (rho_at p nets))
    (map-map (λ a. weighted_rate p c (with_currency currency a)) rule_net nets ∙ sym (map-map (weighted_rate p c) (rate_view currency) nets))
    (nets_correlated rate_cmp rate_total same_rate rate_tests (rate_rho p) rule_net (λ a. weighted_rate p c (with_currency currency a)) (λ a. refl) no_rate nets
    (subst (IsStrictlySortedBy rate_cmp) (map-map (λ (a : Amount RateIn). (a.of).rate) (rate_view currency) nets ∙ sym (map-map (λ (a : Amount RuleRate). a.of) rule_net nets)) are.ascends))
