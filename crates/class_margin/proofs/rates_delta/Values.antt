-- The rule's value of a currency's bucket is in the range of the margin over buckets.
use Rattle.std.proofs.Common.{◌≡◌, ◌^◌, ℕ, ◌+◌, ◌*◌, ◌<◌, ◌≤◌, List, map, length, Bool, true, false, if◌then◌else◌, refl, sym, ◌∙◌, subst, ℤ, pos, ◌≤ℤ◌, ◌<ℤ◌, unsigned_abs, arith}
use Rattle.std.specs.Prelude.{sum_by}
use Rattle.std.specs.List.{AllByRecursion}
use Rattle.std.proofs.lemmas.Int.{ints}
use Rattle.class_rates.specs.MhUnits.Rounding.{up, clamp}
use Rattle.class_rates.proofs.MhUnits.Roundings.{root_is, clamp_size}
use Rattle.class_rates.specs.SimmRules.Params.{Params}
use Rattle.class_rates.specs.SimmRules.Sums.{total_by}
use Rattle.class_rates.specs.SimmRules.Risks.{Amount}
use Rattle.class_rates.specs.SimmRules.Risks.{Rate as RuleRate}
use Rattle.class_rates.specs.SimmRules.Concentration.{one}
use Rattle.class_rates.specs.SimmRules.Bucket.{Weighted, plain, root_of, pair_sum, weighted_sum}
use Rattle.class_rates.specs.SimmRules.Rates.{RateIn, same_rate, rate_rho, rate_weight, rate_cr, weighted_rate, currency_value}
use Rattle.class_rates.specs.SimmParams.Facts.{IsParams}
use Rattle.class_rates.specs.SimmParams.Weighed.{AreRatesWeighed}
use Rattle.class_rates.proofs.PairSums.RootBounds.{root_of_within}
use Rattle.class_rates.specs.WeightedBucket.declared.weighed.Weighed.{Weighed}
use Rattle.class_rates.specs.MeasuredBucket.Values.{weighed_as}
use Rattle.class_rates.proofs.MeasuredBucket.Columns.{IsColumn}
use Rattle.class_rates.proofs.MeasuredBucket.Sizes.{size_all, size_is}
use Rattle.class_rates.proofs.Columns.{of_own}
use Rattle.class_rates.proofs.RateColumns.{weight_positive, own_cr-low, own_cr-high, rates_column}
use Rattle.class_rates.proofs.Rhos.{rate_rho-small}
use Rattle.class_margin.specs.rates_delta.Range.{IsBucket, IsPart}
use Rattle.class_margin.proofs.rates_delta.Sums.{not_negative, total_size, total_by-pos, sum_by-map, pairs_size}

module _ (p : Params) (facts : IsParams p) (weighed : (currency : List ℕ) → AreRatesWeighed p currency) (currency : List ℕ) (rates : List (Amount RateIn)) (own : AllByRecursion (λ a. (a.of).currency ≡ currency) rates) (its : IsBucket p rates) where
  abbrev W : Amount RateIn → Weighted RuleRate
  W = weighted_rate p (rate_cr p currency rates)

  abbrev fs : List (Weighted RuleRate)
  fs = map W rates

  -- the sizes of the weighted values, in all
  abbrev gross : ℕ
  gross = sum_by (λ f. unsigned_abs f.w) fs

  gross_is : total_by (λ f. pos (unsigned_abs f.w)) fs ≡ pos gross
  gross_is = total_by-pos (λ (f : Weighted RuleRate). pos (unsigned_abs f.w)) (λ f. unsigned_abs f.w) fs (λ f. refl)

  abbrev factors : List Weighed
  factors = map (λ a. weighed_as (of_own W a)) rates

  column : IsColumn (10 ^ 10) 346999999 1 (rate_weight p) rates (of_own W) factors
  column = rates_column p weighed currency rates own its factors refl

  gross_factors : sum_by (λ factor. unsigned_abs factor.w) factors ≡ gross
  gross_factors = sum_by-map (λ (factor : Weighed). unsigned_abs factor.w) (λ a. weighed_as (of_own W a)) rates ∙ sym (sum_by-map (λ (f : Weighted RuleRate). unsigned_abs f.w) W rates)

  gross_close : gross * 10 ^ 10 ≤ size_all (rate_weight p) rates * 346999999 + length rates * 10 ^ 10
  gross_close = omega (arith, ints, column.near, gross_factors, size_is (rate_weight p) (weight_positive p weighed) rates)

  gross_below : gross < 84 * 10 ^ 14
  gross_below = omega (arith, column.in_range, gross_factors)

  chosen_small : (t : Bool) (z : ℤ) → unsigned_abs z ≤ 1000000 → unsigned_abs (if t then one else z) ≤ 1000000
  chosen_small true z h = omega arith
  chosen_small false z h = h

  abbrev q : ℤ
  q = pair_sum (plain same_rate (rate_rho p)) fs

  q_size : unsigned_abs q ≤ 1000000 * (gross * gross)
  q_size = pairs_size (plain same_rate (rate_rho p)) (λ f. f.w) (λ k l. chosen_small (same_rate k.of l.of) (rate_rho p k.of l.of) (rate_rho-small p facts k.of l.of)) fs

  k_low : pos 0 ≤ℤ root_of q
  k_low = (root_is (up q one)).not_negative

  k_held : (x k : ℤ) → pos 0 ≤ℤ k → unsigned_abs (clamp x k) ≤ unsigned_abs k
  k_held x k low = let is = not_negative k low in subst (λ z. unsigned_abs (clamp x z) ≤ unsigned_abs k) (sym is) (clamp_size x (unsigned_abs k))

  pub is_part : IsPart (currency_value p currency rates)
  is_part = record {
    not_negative = k_low;
    held = k_held (weighted_sum fs) (root_of q) k_low;
    margin = subst (λ z. root_of q ≤ℤ z) (sym gross_is) (root_of_within q gross q_size);
    sum = subst (λ z. unsigned_abs (weighted_sum fs) ≤ unsigned_abs z) (sym gross_is) (total_size (λ f. f.w) fs);
    gross = subst (λ z. z <ℤ pos (84 * 10 ^ 14)) (sym gross_is) (omega (arith, ints, gross_below));
    cr_low = own_cr-low p weighed currency rates own its;
    cr_high = own_cr-high p weighed currency rates own its;
  }

  pub margin_close : unsigned_abs (currency_value p currency rates).k * 10 ^ 10 ≤ size_all (rate_weight p) rates * 346999999 + length rates * 10 ^ 10
  margin_close = omega (arith, ints, gross_close, k_low, root_of_within q gross q_size)
