-- The buckets of a product class and the margin over them: the rule's, and in range.
use Rattle.std.proofs.Common.{◌≡◌, ◌^◌, ℕ, ◌+◌, ◌*◌, ◌<◌, ◌≤◌, List, [], ◌∷◌, map, length, true, refl, sym, ap, ◌∙◌, subst, pos, unsigned_abs, arith}
use Rattle.std.specs.Prelude.{sum_by}
use Rattle.std.specs.Ordering.{is_eq}
use Rattle.std.specs.List.{filter, flat_map, AllByRecursion}
use Rattle.std.specs.List.Sorted.{IsStrictlySortedBy, IsPermutation}
use Rattle.std.proofs.lemmas.Int.{ints}
use Rattle.std.proofs.lemmas.Cmp.{nat_list_cmp_total, eq_by_cmp_equiv}
use Rattle.std.proofs.lemmas.List.Elements.{All-from_recursion}
use Rattle.std.proofs.lemmas.Map.Lookups.{exact_bytes}
use Rattle.std.proofs.lemmas.List.Sorted.{sum_by-IsPermutation}
use Rattle.std.proofs.lemmas.List.Sums.{sum_by-cons, sum_by-append}
use Rattle.std.proofs.lemmas.Simd.{map-map}
use Rattle.class_rates.specs.SimmKinds.Order.{name_cmp, same_name}
use Rattle.class_rates.specs.SimmRules.declared.values.BucketMargin.{BucketMargin}
use Rattle.class_rates.specs.SimmRules.Params.{Params}
use Rattle.class_rates.specs.SimmRules.Net.{Sensitivity}
use Rattle.class_rates.specs.SimmRules.Risks.{Amount, select}
use Rattle.class_rates.specs.SimmRules.Across.{outer}
use Rattle.class_rates.specs.SimmRules.Rates.{RateIn, as_rate, rate_weight, rates_in, currency_value, rate_parts, across_currencies, rate_delta}
use Rattle.class_rates.specs.SimmParams.Facts.{IsParams}
use Rattle.class_rates.specs.SimmParams.Weighed.{AreRatesWeighed}
use Rattle.class_rates.proofs.FactorBook.Sorting.{any_different, different_ascends}
use Rattle.class_rates.proofs.FactorBook.Grouping.{grouped_all}
use Rattle.class_rates.specs.SimmRules.Gross.{size_by}
use Rattle.class_rates.proofs.SimmKinds.Variants.{is_eq-Equal}
use Rattle.class_rates.proofs.MeasuredBucket.Lists.{each_weaker, kept_pass, map-itself}
use Rattle.class_rates.proofs.MeasuredBucket.Sizes.{size_one, size_all, size_is}
use Rattle.class_rates.proofs.RateColumns.{weight_positive}
use Rattle.class_margin.specs.rates_delta.Range.{IsBucket, IsClass, IsPart}
use Rattle.class_margin.specs.Parts.{as_parts}
use Rattle.class_margin.specs.rates_delta.Parts.{margin_over, AreParts, currencies_of, buckets_of}
use Rattle.book_range.proofs.Lists.{filter_agrees}
use Rattle.class_margin.proofs.rates_delta.Lists.{all_map}
use Rattle.class_margin.proofs.rates_delta.Sums.{sum_by-map, sum_by-below, sum_by-shifted, sum_by-scaled, sum_by-ones, sum_by-filter, sum_by-agrees}
use Rattle.class_margin.proofs.rates_delta.Values.{is_part, margin_close}

-- ---- the rule's parts

module _ (p : Params) (ss : List Sensitivity) where
  abbrev bucket_at : List ℕ → List ℕ × BucketMargin
  bucket_at currency = (currency, currency_value p currency (rates_in currency ss))

  parts_are : as_parts (buckets_of p ss) ≡ rate_parts p ss
  parts_are = map-map (λ (b : List ℕ × BucketMargin). record { at = b.0; value = b.1 }) bucket_at (currencies_of ss)

  pub whole : margin_over p (buckets_of p ss) ≡ rate_delta p ss
  whole = ap (outer same_name (across_currencies p)) parts_are

-- ---- sums over currencies are sums over their rates

module _ (ss : List Sensitivity) where
  abbrev rates : List (Amount RateIn)
  rates = select as_rate ss

  abbrev currency_at : Amount RateIn → List ℕ
  currency_at a = (a.of).currency

  group_is : (currency : List ℕ) → rates_in currency ss ≡ filter (λ a. is_eq (name_cmp currency (currency_at a))) rates
  group_is currency =
      filter_agrees (λ a. same_name (currency_at a) currency) (λ a. is_eq (name_cmp currency (currency_at a)))
      (λ a. (eq_by_cmp_equiv nat_list_cmp_total).symm (currency_at a) currency) rates

  abbrev group : List ℕ → List (Amount RateIn)
  group currency = filter (λ a. is_eq (name_cmp currency (currency_at a))) rates

  grouped : IsPermutation rates (flat_map (λ (e : List ℕ × List (Amount RateIn)). e.1) (map (λ currency. (currency, group currency)) (currencies_of ss)))
  grouped =
      grouped_all name_cmp nat_list_cmp_total currency_at (currencies_of ss) rates (different_ascends name_cmp nat_list_cmp_total (map currency_at rates))
      (λ a. any_different name_cmp (λ q. is_eq (name_cmp q (currency_at a)))
      (λ k l alike. ap (λ q. is_eq (name_cmp q (currency_at a))) (exact_bytes k l alike)) (map currency_at rates))

  group_sums : (f : Amount RateIn → ℕ) (currencies : List (List ℕ)) → sum_by (λ currency. sum_by f (rates_in currency ss)) currencies ≡ sum_by f (flat_map (λ (e : List ℕ × List (Amount RateIn)). e.1) (map (λ currency. (currency, group currency)) currencies))
  group_sums f [] = refl
  group_sums f (currency ∷ currencies) =
      sum_by-cons (λ c. sum_by f (rates_in c ss)) currency currencies ∙ ap (λ xs. sum_by f xs + sum_by (λ c. sum_by f (rates_in c ss)) currencies) (group_is currency)
      ∙ ap (λ n. sum_by f (group currency) + n) (group_sums f currencies)
      ∙ sym (sum_by-append f (group currency) (flat_map (λ (e : List ℕ × List (Amount RateIn)). e.1) (map (λ c. (c, group c)) currencies)))

  pub over_currencies : (f : Amount RateIn → ℕ) → sum_by (λ currency. sum_by f (rates_in currency ss)) (currencies_of ss) ≡ sum_by f rates
  over_currencies f = group_sums f (currencies_of ss) ∙ sum_by-IsPermutation f rates (flat_map (λ (e : List ℕ × List (Amount RateIn)). e.1) (map (λ currency. (currency, group currency)) (currencies_of ss))) grouped

-- ---- in range

module _ (p : Params) (ss : List Sensitivity) (facts : IsParams p) (weighed : (currency : List ℕ) → AreRatesWeighed p currency) (its : IsClass p ss) where
  abbrev weighted_net : Amount RateIn → ℕ
  weighted_net a = size_one (rate_weight p) a

  sizes_are : (rates : List (Amount RateIn)) → size_by (rate_weight p) rates ≡ pos (size_all (rate_weight p) rates)
  sizes_are rates = size_is (rate_weight p) (weight_positive p weighed) rates

  abbrev of : List ℕ → List (Amount RateIn)
  of currency = rates_in currency ss

  weighted_in : sum_by weighted_net (select as_rate ss) ≤ 10 ^ 17
  weighted_in = omega (arith, ints, sizes_are (select as_rate ss), its.small)

  of_it : (currency : List ℕ) → AllByRecursion (λ a. (a.of).currency ≡ currency) (rates_in currency ss)
  of_it currency =
      each_weaker (λ (a : Amount RateIn). same_name (a.of).currency currency ≡ true) (λ a. (a.of).currency ≡ currency) (λ a e. exact_bytes (a.of).currency currency (is_eq-Equal _ e)) (rates_in currency ss)
      (kept_pass (λ (a : Amount RateIn). same_name (a.of).currency currency) (select as_rate ss))

  -- the rates of each currency are in range
  pub is_bucket : (currency : List ℕ) → IsBucket p (of currency)
  is_bucket currency = record {
    few = its.few_each currency;
    small = omega (arith, ints, sizes_are (of currency), sum_by-filter weighted_net (λ a. same_name (a.of).currency currency) (select as_rate ss), weighted_in);
  }

  abbrev margin_at : List ℕ → ℕ
  margin_at currency = unsigned_abs (currency_value p currency (of currency)).k

  margins_close : sum_by margin_at (currencies_of ss) * 10 ^ 10 ≤ sum_by weighted_net (select as_rate ss) * 346999999 + length (select as_rate ss) * 10 ^ 10
  margins_close =
      let sizes = λ (currency : List ℕ). sum_by weighted_net (of currency) in
      let counts = λ (currency : List ℕ). length (of currency) in
      omega (
        arith,
        sum_by-scaled margin_at (10 ^ 10) (currencies_of ss),
        sum_by-below (λ currency. margin_at currency * 10 ^ 10) (λ currency. sizes currency * 346999999 + counts currency * 10 ^ 10) (currencies_of ss) (λ currency. margin_close p facts weighed currency (of currency) (of_it currency) (is_bucket currency)),
        sum_by-shifted sizes counts 346999999 (10 ^ 10) (currencies_of ss),
        over_currencies ss weighted_net,
        sum_by-agrees counts (λ currency. sum_by (λ a. 1) (of currency)) (currencies_of ss) (λ currency. sym (sum_by-ones (of currency))),
        over_currencies ss (λ a. 1),
        sum_by-ones (select as_rate ss),
      )

  margins_small : sum_by (λ b. unsigned_abs (b.1).k) (buckets_of p ss) < 84 * 10 ^ 14
  margins_small =
      omega (arith, margins_close, weighted_in, its.few, sum_by-map (λ (b : List ℕ × BucketMargin). unsigned_abs (b.1).k) (bucket_at p ss) (currencies_of ss))

  in_order : IsStrictlySortedBy name_cmp (map (λ b. b.0) (buckets_of p ss))
  in_order =
      subst (IsStrictlySortedBy name_cmp) (sym (map-map (λ (b : List ℕ × BucketMargin). b.0) (bucket_at p ss) (currencies_of ss) ∙ map-itself (λ currency. (bucket_at p ss currency).0) (λ currency. refl) (currencies_of ss)))
      (different_ascends name_cmp nat_list_cmp_total (map (λ (a : Amount RateIn). (a.of).currency) (select as_rate ss)))

  pub are_parts : AreParts (buckets_of p ss)
  are_parts = record {
    ascend = in_order;
    each = All-from_recursion (λ (b : List ℕ × BucketMargin). IsPart b.1) (buckets_of p ss) (all_map (λ (b : List ℕ × BucketMargin). IsPart b.1) (bucket_at p ss) (currencies_of ss) (λ currency. is_part p facts weighed currency (of currency) (of_it currency) (is_bucket currency)));
    small = margins_small;
  }
