-- The volatilities of a product class in range: those of each currency are, and so are the parts that the class's margin is over.
use Rattle.std.proofs.Common.{◌≡◌, ◌^◌, ℕ, ◌+◌, ◌*◌, ◌<◌, ◌≤◌, List, map, length, Bool, true, false, if◌then◌else◌, refl, sym, ap, ◌∙◌, subst, ℤ, pos, ◌≤ℤ◌, ◌<ℤ◌, unsigned_abs, arith, mul-le-mul_left, mul-le-mul_right}
use Rattle.std.specs.Prelude.{sum_by}
use Rattle.std.specs.List.Sorted.{IsStrictlySortedBy}
use Rattle.std.proofs.lemmas.Cmp.{nat_list_cmp_total}
use Rattle.std.proofs.lemmas.Int.{ints}
use Rattle.std.proofs.lemmas.List.Elements.{All-from_recursion}
use Rattle.std.proofs.lemmas.Simd.{map-map}
use Rattle.class_rates.specs.SimmKinds.Order.{name_cmp, same_name}
use Rattle.class_rates.specs.SimmRules.declared.values.BucketMargin.{BucketMargin}
use Rattle.class_rates.specs.SimmRules.Params.{Params}
use Rattle.class_rates.specs.SimmRules.Sums.{total_by}
use Rattle.class_rates.specs.SimmRules.Net.{Sensitivity}
use Rattle.class_rates.specs.SimmRules.Risks.{RateVolatility, Amount, select}
use Rattle.class_rates.specs.SimmRules.Concentration.{one}
use Rattle.class_rates.specs.SimmRules.Bucket.{Weighted, weighted_value, plain, root_of, pair_sum, weighted_sum}
use Rattle.class_rates.specs.SimmRules.Gross.{size_by}
use Rattle.class_rates.specs.SimmRules.Rates.{VolatilityIn, as_rate_volatility, same_rate_volatility, rate_volatility_rho, rate_thresholds, volatilities_in, volatility_currencies, rate_volatility_cr, weighted_rate_volatility, currency_vega_value}
use Rattle.class_rates.specs.SimmParams.Facts.{IsParams}
use Rattle.class_rates.specs.SimmParams.Weighed.{AreRatesWeighed}
use Rattle.class_rates.proofs.FactorBook.Sorting.{different_ascends}
use Rattle.class_margin.specs.rates_delta.Parts.{AreParts}
use Rattle.class_margin.specs.rates_delta.Range.{IsPart}
use Rattle.class_margin.proofs.rates_delta.Lists.{all_map}
use Rattle.class_margin.proofs.rates_delta.Sums.{sum_by-agrees, sum_by-ones, sum_by-shifted}
use Rattle.class_margin.specs.names_delta.Values.{IsInRange, IsSmall}
use Rattle.class_rates.proofs.MeasuredBucket.Lists.{each_always, map-itself}
use Rattle.class_rates.proofs.MeasuredBucket.Sizes.{sum_by-map, sum_by-below, sum_by-scaled, sum_by-filter, total_size, size_is}
use Rattle.class_rates.proofs.MeasuredBucket.Thick.{net_thick, cr_size, cr_low, cr_below, weighted_close}
use Rattle.class_margin.specs.volatilities.Ranges.{alone}
use Rattle.class_rates.proofs.MeasuredBucket.Gathered.{over_names}
use Rattle.class_rates.proofs.Rhos.{volatility_rho-small}
use Rattle.class_margin.specs.vega.Combine.{IsRateClass, currency_buckets}
use Rattle.class_margin.proofs.vega.ValueParts as value

chosen_small : (t : Bool) (z : ℤ) → unsigned_abs z ≤ 1000000 → unsigned_abs (if t then one else z) ≤ 1000000
chosen_small true z h = omega arith
chosen_small false z h = h

abbrev size : Amount VolatilityIn → ℕ
size a = unsigned_abs a.amount

scaled : (amounts : List (Amount VolatilityIn)) → size_by alone amounts ≡ pos (sum_by size amounts * 10000)
scaled amounts = size_is alone (λ x. omega (arith, ints)) amounts ∙ ap pos (sum_by-scaled size 10000 amounts)

module _ (p : Params) (facts : IsParams p) (weighed : (currency : List ℕ) → AreRatesWeighed p currency) (ss : List Sensitivity) (its : IsRateClass ss) where
  abbrev all : List (Amount VolatilityIn)
  all = select as_rate_volatility ss

  abbrev of : List ℕ → List (Amount VolatilityIn)
  of currency = volatilities_in currency ss

  all_small : sum_by size all ≤ 10 ^ 13
  all_small = omega (arith, ints, its.small, scaled all)

  of_small : (currency : List ℕ) → sum_by size (of currency) ≤ 10 ^ 13
  of_small currency = omega (arith, all_small, sum_by-filter size (λ a. same_name (a.of).currency currency) all)

  -- the volatilities of each currency are in range
  pub each_range : (currency : List ℕ) → IsInRange alone (volatilities_in currency ss)
  each_range currency = record {
    few = its.few_each currency;
    small = omega (arith, ints, scaled (of currency), of_small currency);
  }

  -- ---- their concentration

  abbrev threshold : List ℕ → ℤ
  threshold currency = (rate_thresholds p currency).vega

  abbrev own_cr : List ℕ → ℤ
  own_cr currency = rate_volatility_cr p currency (of currency)

  net_small : (currency : List ℕ) → IsSmall (pos 10000) (total_by (λ a. a.amount) (of currency))
  net_small currency = omega (arith, mul-le-mul_right 10000 (total_size (λ (a : Amount VolatilityIn). a.amount) (of currency)), of_small currency)

  cr_small : (currency : List ℕ) → unsigned_abs (own_cr currency) ≤ 346999999
  cr_small currency =
      let net = total_by (λ (a : Amount VolatilityIn). a.amount) (of currency) in
      let own = (weighed currency).vega in
      cr_size net (threshold currency) own.threshold_low (net_thick net (pos 10000) (threshold currency) own (omega (arith, ints)) (net_small currency))

  -- ---- their weighted values

  abbrev fs : List ℕ → List (Weighted RateVolatility)
  fs currency = map (weighted_rate_volatility p (own_cr currency)) (of currency)

  abbrev gross : List ℕ → ℕ
  gross currency = sum_by (λ f. unsigned_abs f.w) (fs currency)

  weight_size : unsigned_abs p.ir.vrw ≤ 20000
  weight_size = omega (arith, ints, facts.ir.vrw.low, facts.ir.vrw.high)

  gross_close : (currency : List ℕ) → gross currency * 10 ^ 10 ≤ sum_by size (of currency) * 6939999980000 + length (of currency) * 10 ^ 10
  gross_close currency =
      let w : Amount VolatilityIn → ℕ = λ a. unsigned_abs (weighted_value p.ir.vrw a.amount (own_cr currency)) in
      omega (
        arith,
        sum_by-map (λ (f : Weighted RateVolatility). unsigned_abs f.w) (weighted_rate_volatility p (own_cr currency)) (of currency),
        sum_by-scaled w (10 ^ 10) (of currency),
        sum_by-below (λ a. w a * 10 ^ 10) (λ a. size a * 6939999980000 + 1 * 10 ^ 10) (of currency)
            (each_always (λ a. w a * 10 ^ 10 ≤ size a * 6939999980000 + 1 * 10 ^ 10)
            (λ a. omega (arith, weighted_close p.ir.vrw a.amount (own_cr currency) (cr_small currency), mul-le-mul_left (size a) weight_size)) (of currency)),
        sum_by-shifted size (λ a. 1) 6939999980000 (10 ^ 10) (of currency),
        sum_by-ones (of currency),
      )

  gross_below : (currency : List ℕ) → gross currency < 84 * 10 ^ 14
  gross_below currency = omega (arith, gross_close currency, of_small currency, its.few_each currency)

  -- ---- the part of a currency

  abbrev corr : Weighted RateVolatility → Weighted RateVolatility → ℤ
  corr = plain same_rate_volatility (rate_volatility_rho p)

  corr_small : (k l : Weighted RateVolatility) → unsigned_abs (corr k l) ≤ 1000000
  corr_small k l = chosen_small (same_rate_volatility k.of l.of) (rate_volatility_rho p k.of l.of) (volatility_rho-small p facts k.of l.of)

  is_part : (currency : List ℕ) → IsPart (currency_vega_value p currency (of currency))
  is_part currency =
      let gross_is = value.gross_is corr corr_small (fs currency) in
      record {
        not_negative = value.k_low corr corr_small (fs currency);
        held = value.s_held corr corr_small (fs currency);
        margin = subst (λ z. root_of (pair_sum corr (fs currency)) ≤ℤ z) (sym gross_is) (value.k_most corr corr_small (fs currency));
        sum = subst (λ z. unsigned_abs (weighted_sum (fs currency)) ≤ unsigned_abs z) (sym gross_is) (value.sum_most corr corr_small (fs currency));
        gross = subst (λ z. z <ℤ pos (84 * 10 ^ 14)) (sym gross_is) (omega (arith, ints, gross_below currency));
        cr_low = cr_low (total_by (λ (a : Amount VolatilityIn). a.amount) (of currency)) (threshold currency);
        cr_high = cr_below (own_cr currency) (cr_small currency);
      }

  -- ---- all parts

  abbrev currencies : List (List ℕ)
  currencies = volatility_currencies ss

  abbrev margin_at : List ℕ → ℕ
  margin_at currency = unsigned_abs (currency_vega_value p currency (of currency)).k

  margin_close : (currency : List ℕ) → margin_at currency * 10 ^ 10 ≤ sum_by size (of currency) * 6939999980000 + length (of currency) * 10 ^ 10
  margin_close currency = omega (arith, ints, gross_close currency, value.k_low corr corr_small (fs currency), value.k_most corr corr_small (fs currency))

  over_all : (f : Amount VolatilityIn → ℕ) → sum_by (λ currency. sum_by f (of currency)) currencies ≡ sum_by f all
  over_all f = over_names (λ (a : Amount VolatilityIn). (a.of).currency) all f

  margins_close : sum_by margin_at currencies * 10 ^ 10 ≤ sum_by size all * 6939999980000 + length all * 10 ^ 10
  margins_close =
      let sizes = λ (currency : List ℕ). sum_by size (of currency) in
      let counts = λ (currency : List ℕ). length (of currency) in
      omega (
        arith,
        sum_by-scaled margin_at (10 ^ 10) currencies,
        sum_by-below (λ currency. margin_at currency * 10 ^ 10) (λ currency. sizes currency * 6939999980000 + counts currency * 10 ^ 10) currencies
            (each_always (λ currency. margin_at currency * 10 ^ 10 ≤ sizes currency * 6939999980000 + counts currency * 10 ^ 10) margin_close currencies),
        sum_by-shifted sizes counts 6939999980000 (10 ^ 10) currencies,
        over_all size,
        sum_by-agrees counts (λ currency. sum_by (λ a. 1) (of currency)) currencies (λ currency. sym (sum_by-ones (of currency))),
        over_all (λ a. 1),
        sum_by-ones all,
      )

  abbrev bucket_at : List ℕ → List ℕ × BucketMargin
  bucket_at currency = (currency, currency_vega_value p currency (of currency))

  margins_small : sum_by (λ b. unsigned_abs (b.1).k) (currency_buckets p ss) < 84 * 10 ^ 14
  margins_small = omega (arith, margins_close, all_small, its.few, sum_by-map (λ (b : List ℕ × BucketMargin). unsigned_abs (b.1).k) bucket_at currencies)

  in_order : IsStrictlySortedBy name_cmp (map (λ b. b.0) (currency_buckets p ss))
  in_order =
      subst (IsStrictlySortedBy name_cmp) (sym (map-map (λ (b : List ℕ × BucketMargin). b.0) bucket_at currencies ∙ map-itself (λ currency. (bucket_at currency).0) (λ currency. refl) currencies))
      (different_ascends name_cmp nat_list_cmp_total (map (λ (a : Amount VolatilityIn). (a.of).currency) all))

  pub are_parts : AreParts (currency_buckets p ss)
  are_parts = record {
    ascend = in_order;
    each = All-from_recursion (λ (b : List ℕ × BucketMargin). IsPart b.1) (currency_buckets p ss) (all_map (λ (b : List ℕ × BucketMargin). IsPart b.1) bucket_at currencies is_part);
    small = margins_small;
  }
