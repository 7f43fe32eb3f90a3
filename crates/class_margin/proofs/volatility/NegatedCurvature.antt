-- The curvature values of the buckets of a negated book, and what is known of their sizes.
use Rattle.std.proofs.Common.{◌≡◌, ℕ, ◌≤◌, List, map, length, Option, Some, None, ℤ, unsigned_abs, refl, sym, ap, ◌∙◌, subst, arith, option_map}
use Rattle.std.specs.Prelude.{IsSomeAnd}
use Rattle.std.specs.List.{list_any, AllByRecursion}
use Rattle.std.specs.List.Sorted.{IsStrictlySortedBy}
use Rattle.std.proofs.lemmas.Int.{ints}
use Rattle.std.proofs.lemmas.List.{length-map}
use Rattle.std.proofs.lemmas.Simd.{map-map}
use Rattle.class_rates.specs.SimmKinds.declared.kinds.ProductClass.{ProductClass}
use Rattle.class_rates.specs.SimmKinds.declared.kinds.RiskClass.{RiskClass}
use Rattle.class_rates.specs.SimmKinds.declared.kinds.RiskClass.TheVariants as class
use Rattle.class_rates.specs.SimmKinds.declared.key.FactorKey.{FactorKey}
use Rattle.class_rates.specs.SimmKinds.Order.{bucket_id_cmp, same_bucket_id}
use Rattle.class_rates.specs.SimmRules.declared.values.BucketMargin.{BucketMargin}
use Rattle.class_rates.specs.SimmRules.Params.{Params, CreditBucket, PricedBucket}
use Rattle.class_rates.specs.SimmRules.Risks.{Risk, Amount, RateVolatility, select}
use Rattle.class_rates.specs.SimmRules.Gross.{size_by}
use Rattle.class_rates.specs.SimmRules.Rates.{currency_curvature_value}
use Rattle.class_rates.specs.SimmRules.Credit.{credit_params, credit_curvature_value}
use Rattle.class_rates.specs.SimmRules.Priced.{priced_params, price_curvature_value}
use Rattle.class_rates.specs.SimmRules.ForeignExchange.{as_pair_volatility, fx_sigma, fx_curvature_value}
use Rattle.class_rates.specs.SimmParams.ListedBuckets.{credit_bucket_of, priced_bucket_of}
use Rattle.class_rates.specs.FactorBook.declared.holding.Holding.{Holding}
use Rattle.class_rates.specs.FactorBook.declared.place.BookSide.TheVariants as side
use Rattle.class_rates.specs.FactorBook.declared.place.Place.{Place}
use Rattle.class_rates.specs.FactorBook.declared.place.Stand.TheVariants as stand
use Rattle.class_rates.specs.FactorBook.declared.slot.Slot.{Slot}
use Rattle.class_rates.specs.FactorBook.declared.slot.Slot.TheVariants as slot
use Rattle.class_rates.specs.FactorBook.Factors.{net_of}
use Rattle.class_rates.specs.FactorBook.Place.{slot_bucket}
use Rattle.class_rates.specs.FactorBook.Places.{factors_at}
use Rattle.class_rates.specs.Volatilities.{as_volatility_alone, volatilities_among, volatility_nets as rate_nets, with_currency}
use Rattle.class_credit.specs.Points.{as_point, point_nets}
use Rattle.class_priced.specs.Names.{as_name_volatility, volatility_nets}
use Rattle.class_exchange.specs.Pairs.{pair_nets}
use Rattle.class_rates.proofs.MeasuredBucket.Lists.{each_weaker, each_map}
use Rattle.class_rates.proofs.MhUnits.Integers.{unsigned_abs-neg}
use Rattle.negated_book.specs.Negated.{negated_amount, negated_amounts, negated_value, negated_factors}
use Rattle.negated_book.proofs.Factors.{nets_of-negated}
use Rattle.negated_book.proofs.Netting.{select-negated}
use Rattle.negated_book.proofs.Range.{size_by-negated}
use Rattle.negated_book.proofs.RateClass.{currency_curvature_value-turns}
use Rattle.negated_book.proofs.CreditClasses.{credit_curvature_value-turns}
use Rattle.negated_book.proofs.PricedClasses.{price_curvature_value-turns}
use Rattle.negated_book.proofs.ExchangeClass.{fx_curvature_value-turns}
use Rattle.class_margin.specs.curvature.Values.{IsSizedBy, IsSized}
use Rattle.class_margin.specs.value.Curvature.{curvature_of, IsCurvatureSized}
use Rattle.class_margin.specs.volatilities.Ranges.{alone}
use Rattle.class_margin.specs.volatility.Curvature.{negated_bucket, negated_buckets, CanBeNegated}
use Rattle.class_margin.proofs.Valued.{Slotted, ids}
use Rattle.class_margin.proofs.value.Parts.{IsValuedBy}
use Rattle.class_margin.proofs.volatility.CurvatureClasses.{AreCurvatures}
use Rattle.class_margin.proofs.volatility.NegatedBooks.{buckets-negated, factors_at-negated}

-- ---- the volatilities of a place

selected : {A : Type 0} (sort : Risk → Option A) (its : List (FactorKey × Holding)) → select sort (map net_of (negated_factors its)) ≡ negated_amounts (select sort (map net_of its))
selected sort its = ap (select sort) (nets_of-negated its) ∙ select-negated sort (map net_of its)

volatilities : (currency : List ℕ) (its : List (FactorKey × Holding)) → volatilities_among currency (negated_factors its) ≡ negated_amounts (volatilities_among currency its)
volatilities currency its =
    ap (map (with_currency currency)) (selected as_volatility_alone its)
    ∙ map-map (with_currency currency) (negated_amount {A = RateVolatility}) (rate_nets its)
    ∙ sym (map-map negated_amount (with_currency currency) (rate_nets its))

-- ---- the value: that of the book with its sums negated

of_listed : {X : Type 0} (f g : X → BucketMargin) → ((x : X) → f x ≡ negated_value (g x)) → (o : Option X) → option_map f o ≡ option_map negated_value (option_map g o)
of_listed f g h None = refl
of_listed f g h (Some x) = ap Some (h x)

module _ (p : Params) (its : List (FactorKey × Holding)) where
  value_of : (s : Slot) → curvature_of p s (negated_factors its) ≡ option_map negated_value (curvature_of p s its)
  value_of (slot.Rates currency) = ap Some (ap (currency_curvature_value p) (volatilities currency its) ∙ currency_curvature_value-turns p (volatilities_among currency its))
  value_of (slot.Credit class at) =
      of_listed (λ (b : CreditBucket). credit_curvature_value b (point_nets (negated_factors its))) (λ b. credit_curvature_value b (point_nets its))
      (λ b. ap (credit_curvature_value b) (selected as_point its) ∙ credit_curvature_value-turns b (point_nets its)) (credit_bucket_of (credit_params p class).buckets at)
  value_of (slot.Priced class at) =
      of_listed (λ (b : PricedBucket). price_curvature_value b (volatility_nets (negated_factors its))) (λ b. price_curvature_value b (volatility_nets its))
      (λ b. ap (price_curvature_value b) (selected as_name_volatility its) ∙ price_curvature_value-turns b (volatility_nets its)) (priced_bucket_of (priced_params p class).buckets at)
  value_of slot.Exchange = ap Some (ap (fx_curvature_value p) (selected as_pair_volatility its) ∙ fx_curvature_value-turns p (pair_nets its))

-- ---- its sizes

still_sized : (size : ℤ) (count : ℕ) (value : BucketMargin) → IsSizedBy size count value → IsSizedBy size count (negated_value value)
still_sized size count value its = record {
  not_negative = its.not_negative;
  held = subst (λ n. n ≤ unsigned_abs value.k) (sym (unsigned_abs-neg value.s)) its.held;
  margin = its.margin;
  sum = subst (λ n. n ≤ unsigned_abs value.gross) (sym (unsigned_abs-neg value.sum)) its.sum;
  gross = its.gross;
  below = its.below;
  unconcentrated = its.unconcentrated;
}

sized : {A : Type 0} (weight : A → ℤ) (amounts other : List (Amount A)) → other ≡ negated_amounts amounts → (value : BucketMargin) → IsSized weight amounts value → IsSized weight other (negated_value value)
sized weight amounts other e value its =
    subst (λ z. IsSizedBy z (length other) (negated_value value)) (sym (ap (size_by weight) e ∙ size_by-negated weight amounts))
    (subst (λ n. IsSizedBy (size_by weight amounts) n (negated_value value)) (sym (ap length e ∙ length-map amounts negated_amount)) (still_sized (size_by weight amounts) (length amounts) value its))

-- what follows of each that may be there
of_any : {X : Type 0} (P Q : X → Type 0) → ((x : X) → P x → Q x) → (o : Option X) → IsSomeAnd o P → IsSomeAnd o Q
of_any P Q f None h = h
of_any P Q f (Some x) h = f x h

module _ (p : Params) (its : List (FactorKey × Holding)) (value : BucketMargin) where
  sized_of : (s : Slot) → IsCurvatureSized p s its value → IsCurvatureSized p s (negated_factors its) (negated_value value)
  sized_of (slot.Rates currency) h = sized alone (volatilities_among currency its) (volatilities_among currency (negated_factors its)) (volatilities currency its) value h
  sized_of (slot.Credit class at) h =
      of_any (λ (b : CreditBucket). IsSized alone (point_nets its) value) (λ b. IsSized alone (point_nets (negated_factors its)) (negated_value value))
      (λ b. sized alone (point_nets its) (point_nets (negated_factors its)) (selected as_point its) value) (credit_bucket_of (credit_params p class).buckets at) h
  sized_of (slot.Priced class at) h =
      of_any (λ (b : PricedBucket). IsSized (λ _. b.sigma) (volatility_nets its) value) (λ b. IsSized (λ _. b.sigma) (volatility_nets (negated_factors its)) (negated_value value))
      (λ b. sized (λ _. b.sigma) (volatility_nets its) (volatility_nets (negated_factors its)) (selected as_name_volatility its) value) (priced_bucket_of (priced_params p class).buckets at) h
  sized_of slot.Exchange h = sized (λ v. fx_sigma p v.pair) (pair_nets its) (pair_nets (negated_factors its)) (selected as_pair_volatility its) value h

-- ---- the parts of a class

module _ (p : Params) (product : ProductClass) (k : RiskClass) (fs : List (FactorKey × Holding)) where
  abbrev place_of : Slot → Place
  place_of s = record { product = product; stand = stand.Volatility s }

  abbrev here : Slot → List (FactorKey × Holding)
  here s = factors_at (record { product = product; stand = stand.Volatility s }) fs

  abbrev there : Slot → List (FactorKey × Holding)
  there s = factors_at (record { product = product; stand = stand.Volatility s }) (negated_factors fs)

  there_is : (s : Slot) → there s ≡ negated_factors (here s)
  there_is s = factors_at-negated (place_of s) fs

  part-negated : (part : Slotted) → IsValuedBy here (curvature_of p) (IsCurvatureSized p) k part → IsValuedBy there (curvature_of p) (IsCurvatureSized p) k (negated_bucket part)
  part-negated part v = record {
    in_class = v.in_class;
    value = ap (option_map negated_value) v.value ∙ sym (value_of p (here part.0) part.0) ∙ ap (curvature_of p part.0) (sym (there_is part.0));
    sized = subst (λ f. IsCurvatureSized p part.0 f (negated_value part.1)) (sym (there_is part.0)) (sized_of p (here part.0) part.1 part.0 v.sized);
  }

  pub parts-negated : (parts : List Slotted) → AreCurvatures p product k fs parts → AreCurvatures p product k (negated_factors fs) (negated_buckets parts)
  parts-negated parts its =
      let same : ids (negated_buckets parts) ≡ ids parts = map-map (λ (part : Slotted). slot_bucket part.0) negated_bucket parts in
      record {
        by_slot = record {
          ascends = subst (IsStrictlySortedBy bucket_id_cmp) (sym same) its.by_slot.ascends;
          complete = λ s e none. there_is s ∙ ap negated_factors (its.by_slot.complete s e (ap (list_any (λ b. same_bucket_id b (slot_bucket s))) (sym same) ∙ none));
          each = each_map (IsValuedBy there (curvature_of p) (IsCurvatureSized p) k) negated_bucket parts
              (each_weaker (IsValuedBy here (curvature_of p) (IsCurvatureSized p) k) (λ part. IsValuedBy there (curvature_of p) (IsCurvatureSized p) k (negated_bucket part)) part-negated parts its.by_slot.each);
        };
        of_rates = λ e. same ∙ its.of_rates e ∙ sym (buckets-negated product class.IR side.Volatility fs);
      }

-- ---- their sums are small

small : (size : ℤ) (count : ℕ) (value : BucketMargin) → IsSizedBy size count value → CanBeNegated value
small size count value its = record {
  held = omega (arith, ints, its.held, its.margin, its.not_negative, its.below);
  sum = omega (arith, ints, its.sum, its.margin, its.not_negative, its.below);
}

-- what holds of each that may be there, and of one at least
of_one : {X : Type 0} (P : X → Type 0) (value : BucketMargin) → ((x : X) → P x → CanBeNegated value) → (o : Option X) → IsSomeAnd o P → CanBeNegated value
of_one P value f None h = absurd h
of_one P value f (Some x) h = f x h

small_of : (p : Params) (its : List (FactorKey × Holding)) (value : BucketMargin) (s : Slot) → IsCurvatureSized p s its value → CanBeNegated value
small_of p its value (slot.Rates currency) h = small (size_by alone (volatilities_among currency its)) (length (volatilities_among currency its)) value h
small_of p its value (slot.Credit class at) h =
    of_one (λ (b : CreditBucket). IsSized alone (point_nets its) value) value (λ b. small (size_by alone (point_nets its)) (length (point_nets its)) value) (credit_bucket_of (credit_params p class).buckets at) h
small_of p its value (slot.Priced class at) h =
    of_one (λ (b : PricedBucket). IsSized (λ _. b.sigma) (volatility_nets its) value) value
    (λ b. small (size_by (λ _. b.sigma) (volatility_nets its)) (length (volatility_nets its)) value) (priced_bucket_of (priced_params p class).buckets at) h
small_of p its value slot.Exchange h = small (size_by (λ v. fx_sigma p v.pair) (pair_nets its)) (length (pair_nets its)) value h

pub parts-small : (p : Params) (product : ProductClass) (k : RiskClass) (fs : List (FactorKey × Holding)) (parts : List Slotted) → AreCurvatures p product k fs parts → AllByRecursion (λ part. CanBeNegated part.1) parts
parts-small p product k fs parts its =
    each_weaker (IsValuedBy (here p product k fs) (curvature_of p) (IsCurvatureSized p) k) (λ part. CanBeNegated part.1) (λ part v. small_of p (here p product k fs part.0) part.1 part.0 v.sized) parts its.by_slot.each
