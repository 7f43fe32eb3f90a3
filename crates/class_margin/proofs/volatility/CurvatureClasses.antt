-- The curvature parts of each class: in range, and their margin the rule's.
use Rattle.std.proofs.Common.{◌≡◌, ℕ, ◌≤◌, List, [], ◌∷◌, map, length, Some, true, false, refl, sym, ap, ◌∙◌, subst, ℤ, pos, arith}
use Rattle.std.specs.Prelude.{sum_by, option_map, IsSomeAnd}
use Rattle.std.specs.declared.cmp.Ordering.TheVariants.{Less, Equal}
use Rattle.std.specs.List.{list_all}
use Rattle.std.specs.List.Sorted.{IsStrictlySortedBy}
use Rattle.std.proofs.Math.IntN.{+ℤ_idr}
use Rattle.std.proofs.lemmas.Int.{ints}
use Rattle.std.proofs.lemmas.List.Sums.{sum_by-cons}
use Rattle.class_rates.specs.SimmKinds.declared.kinds.ProductClass.{ProductClass}
use Rattle.class_rates.specs.SimmKinds.declared.kinds.RiskClass.{RiskClass}
use Rattle.class_rates.specs.SimmKinds.declared.kinds.RiskClass.TheVariants as class
use Rattle.class_rates.specs.SimmKinds.declared.kinds.BucketId.TheVariants as id
use Rattle.class_rates.specs.SimmKinds.declared.bucket.Bucket.{Bucket}
use Rattle.class_rates.specs.SimmKinds.declared.key.FactorKey.{FactorKey}
use Rattle.class_rates.specs.SimmKinds.declared.row.CrifRow.{CrifRow}
use Rattle.class_rates.specs.SimmKinds.Batch.{is_in_range}
use Rattle.class_rates.specs.SimmKinds.Factors.{bucket_id_of, bucket_of}
use Rattle.class_rates.specs.SimmKinds.Order.{bucket_id_cmp}
use Rattle.class_rates.specs.SimmRules.declared.values.BucketMargin.{BucketMargin}
use Rattle.class_rates.specs.SimmRules.Params.{Params, CreditBucket, PricedBucket}
use Rattle.class_rates.specs.SimmRules.Net.{Sensitivity}
use Rattle.class_rates.specs.SimmRules.Risks.{CreditPoint, Amount, select}
use Rattle.class_rates.specs.SimmRules.declared.classes.CreditClass.{CreditClass}
use Rattle.class_rates.specs.SimmRules.declared.classes.CreditClass.TheVariants.{Qualifying, NonQualifying}
use Rattle.class_rates.specs.SimmRules.declared.classes.PricedClass.{PricedClass}
use Rattle.class_rates.specs.SimmRules.declared.classes.PricedClass.TheVariants.{Equities, Commodities}
use Rattle.class_rates.specs.SimmRules.Curvature.{curvature_over, curvature_part}
use Rattle.class_rates.specs.SimmRules.Gross.{size_by}
use Rattle.class_rates.specs.SimmRules.Sums.{different, total_by}
use Rattle.class_rates.specs.SimmRules.Rates.{VolatilityIn, as_rate_volatility, volatilities_in, volatility_currencies, currency_curvature_value}
use Rattle.class_rates.specs.SimmRules.Credit.{as_credit_volatility, credit_params, listed_credit, credit_curvature_value, credit_curvature}
use Rattle.class_rates.specs.SimmRules.Priced.{NameVolatility, as_price_volatility, priced_params, listed_priced, price_curvature_value, price_curvature}
use Rattle.class_rates.specs.SimmRules.ForeignExchange.{PairVolatility, fx_sigma, fx_curvature_value, fx_curvature}
use Rattle.class_rates.specs.SimmParams.Facts.{IsParams}
use Rattle.class_rates.specs.SimmParams.ListedBuckets.{credit_bucket_of, priced_bucket_of}
use Rattle.class_rates.specs.SimmRules.RiskClasses.{credit_risk_class, priced_risk_class}
use Rattle.class_rates.specs.FactorBook.declared.holding.Holding.{Holding}
use Rattle.class_rates.specs.FactorBook.declared.place.BookSide.TheVariants as side
use Rattle.class_rates.specs.FactorBook.declared.place.Stand.TheVariants as stand
use Rattle.class_rates.specs.FactorBook.declared.slot.Slot.{Slot}
use Rattle.class_rates.specs.FactorBook.declared.slot.Slot.TheVariants as slot
use Rattle.class_rates.specs.FactorBook.declared.value.PlaceValue.{PlaceValue}
use Rattle.class_rates.specs.FactorBook.Factors.{factors_of}
use Rattle.class_rates.specs.FactorBook.Places.{factors_at}
use Rattle.class_rates.specs.FactorBook.Place.{slot_bucket}
use Rattle.class_rates.proofs.FactorBook.Buckets.{own}
use Rattle.class_rates.proofs.FactorBook.Sums.{total_by-map}
use Rattle.class_rates.proofs.VolatilityPlaces.{volatilities_there}
use Rattle.class_credit.specs.Points.{point_nets}
use Rattle.class_credit.proofs.VolatilePoints.{volatilities_there as points_there}
use Rattle.class_priced.specs.Names.{volatility_nets}
use Rattle.class_priced.proofs.VolatileNames.{volatilities_there as names_there}
use Rattle.class_exchange.specs.Pairs.{pair_nets}
use Rattle.class_exchange.proofs.VolatilePairs.{pairs_there}
use Rattle.class_rates.proofs.MeasuredBucket.Lists.{each_weaker}
use Rattle.book_range.specs.Bounded.{IsBounded, IsMarginable}
use Rattle.class_margin.specs.Across.{buckets_of}
use Rattle.class_margin.specs.Parts.{currency_of, currency_parts, curvature_parts, listed_of, listed_parts}
use Rattle.class_margin.specs.curvature.Combine.{currency_buckets, curvature_across, over_currencies, over_listed, over_ratio, over_single, AreListedParts, AreParts, AreSized}
use Rattle.class_margin.specs.curvature.Values.{IsSizedBy, IsSized}
use Rattle.class_margin.specs.declared.listed.ListedClass.TheVariants as its_class
use Rattle.class_margin.specs.names_delta.Values.{nets_in}
use Rattle.class_margin.specs.value.Values.{AreClassValues}
use Rattle.class_margin.specs.value.Curvature.{curvature_of, IsCurvatureSized}
use Rattle.class_margin.specs.volatilities.Places.{points_of, name_volatilities, pair_volatilities}
use Rattle.class_margin.specs.volatilities.Ranges.{alone}
use Rattle.class_margin.specs.volatility.Curvature.{class_curvature_of}
use Rattle.class_margin.proofs.Valued.{Slotted, Whole, ids, listed_ids}
use Rattle.class_margin.proofs.curvature.Idle.{credit_kept, pairs_none, priced_kept, whole}
use Rattle.class_margin.proofs.delta.Bounds.{was_value, HasClass}
use Rattle.class_margin.proofs.delta.Owned.{has, each_listed, owned, margin_of_parts, IsOwned}
use Rattle.class_margin.proofs.names_delta.Shrinking.{SizesAreNetted}
use Rattle.class_margin.proofs.rates_delta.Sums.{sum_by-map}
use Rattle.class_margin.proofs.value.Sorts.{all_of, by_currency, currencies_ascend, in_credit, in_exchange, in_priced, in_rates, listed_ascend, AreAllOf, IsPartOf}
use Rattle.class_margin.proofs.value.Parts.{curvature_are, curvature_ids, ArePartsBy, IsValuedBy}
use Rattle.class_margin.proofs.vega.RateBuckets.{buckets_are}
use Rattle.class_margin.proofs.volatility.Bounds.{credit_class, nets_few, pairs_range, priced_class, rates_range}
use Rattle.class_margin.proofs.volatility.Currencies.{counts, sizes}
use Rattle.class_margin.proofs.volatility.CurvatureAlike.{curvature_alike}
use Rattle.class_margin.proofs.volatility.CurvatureCounts.{credit_count, priced_count}
use Rattle.class_margin.proofs.volatility.CurvatureJoinable.{sized, AreJoinable}
use Rattle.class_margin.proofs.volatility.CurvatureNumbered.{joinable, IsSizedIn}

-- a weight of 1
abbrev pos_one : ℤ
pos_one = pos 10000

-- what the parts of a class come to
pub record IsDone (p : Params) (k : RiskClass) (ss : List Sensitivity) (parts : List Slotted) : Type 0 where
  pub are : AreParts p (buckets_of k) parts
  pub margin : curvature_across p (buckets_of k) parts ≡ class_curvature_of p ss k

-- the parts of a class in a book
pub record AreCurvatures (p : Params) (product : ProductClass) (k : RiskClass) (fs : List (FactorKey × Holding)) (parts : List Slotted) : Type 0 where
  pub by_slot : ArePartsBy (λ s. factors_at (record { product = product; stand = stand.Volatility s }) fs) (curvature_of p) (IsCurvatureSized p) k parts
  pub of_rates : k ≡ class.IR → ids parts ≡ different bucket_id_cmp (map (λ (f : FactorKey × Holding). bucket_of f.0.factor) (own product class.IR side.Volatility fs))

-- of foreign exchange
record IsExchange (p : Params) (its : List (FactorKey × Holding)) (m : BucketMargin) : Type 0 where
  value : m ≡ fx_curvature_value p (pair_nets its)
  sized : IsSized (λ v. fx_sigma p v.pair) (pair_nets its) m

module _ (p : Params) (facts : IsParams p) (held : List CrifRow) (bounded : IsBounded p held) (amounts : list_all is_in_range held ≡ true) (product : ProductClass) (sizes_netted : SizesAreNetted held) where
  abbrev fs : List (FactorKey × Holding)
  fs = factors_of held

  abbrev ss : List Sensitivity
  ss = nets_in product fs

  few_nets : length ss ≤ 20000
  few_nets = nets_few p facts held bounded amounts product sizes_netted

  abbrev its : Slot → List (FactorKey × Holding)
  its s = factors_at (record { product = product; stand = stand.Volatility s }) fs

  abbrev IsCurvature : RiskClass → Slotted → Type 0
  IsCurvature k = IsValuedBy its (curvature_of p) (IsCurvatureSized p) k

  abbrev AreBy : RiskClass → List Slotted → Type 0
  AreBy k parts = ArePartsBy its (curvature_of p) (IsCurvatureSized p) k parts

  -- ---- interest rates

  abbrev rate_value : List ℕ → BucketMargin
  rate_value currency = currency_curvature_value p (volatilities_in currency ss)

  abbrev of : List ℕ → List (Amount VolatilityIn)
  of currency = volatilities_in currency ss

  record IsRate (q : List ℕ × BucketMargin) : Type 0 where
    value : q.1 ≡ currency_curvature_value p (volatilities_in q.0 (nets_in product (factors_of held)))
    known : IsSized alone (volatilities_in q.0 (nets_in product (factors_of held))) q.1

  rate_own : (part : Slotted) → IsCurvature class.IR part → IsPartOf currency_of id.Currency IsRate part
  rate_own part v =
      in_rates (λ s. Some part.1 ≡ curvature_of p s (its s) → IsCurvatureSized p s (its s) part.1 → IsPartOf currency_of id.Currency IsRate (s, part.1))
      (λ currency value known. record {
        at = currency;
        is = refl;
        named = refl;
        own = record {
          value = was_value part.1 (rate_value currency) (value ∙ ap (λ (xs : List (Amount VolatilityIn)). Some (currency_curvature_value p xs)) (volatilities_there currency product fs));
          known = subst (λ (xs : List (Amount VolatilityIn)). IsSized alone xs part.1) (volatilities_there currency product fs) known;
        };
      })
      part.0 v.in_class v.value v.sized

  abbrev rate_size : List ℕ × BucketMargin → ℤ
  rate_size q = size_by alone (of q.0)

  abbrev rate_count : List ℕ × BucketMargin → ℕ
  rate_count q = length (of q.0)

  module _ (parts : List Slotted) (are : AreCurvatures p product class.IR fs parts) where
    rates : AreAllOf currency_of id.Currency IsRate parts
    rates = all_of currency_of id.Currency IsRate parts (each_weaker (IsCurvature class.IR) (IsPartOf currency_of id.Currency IsRate) rate_own parts are.by_slot.each)

    made : currency_parts parts ≡ currency_buckets p ss
    made =
        by_currency rate_value (currency_parts parts) (volatility_currencies ss) (rates.named ∙ are.of_rates refl ∙ buckets_are product fs)
        (each_weaker IsRate (λ q. q.1 ≡ rate_value q.0) (λ q own. own.value) (currency_parts parts) rates.each)

    abbrev part_of : List ℕ → List ℕ × BucketMargin
    part_of currency = (currency, rate_value currency)

    total_size : total_by rate_size (currency_parts parts) ≡ size_by alone (select as_rate_volatility ss)
    total_size = ap (total_by rate_size) made ∙ total_by-map rate_size part_of (volatility_currencies ss) ∙ sizes ss

    total_count : sum_by rate_count (currency_parts parts) ≡ length (select as_rate_volatility ss)
    total_count = ap (sum_by rate_count) made ∙ sum_by-map rate_count part_of (volatility_currencies ss) ∙ counts ss

    rates_joinable : AreJoinable (currency_parts parts)
    rates_joinable =
        let range = rates_range p facts held bounded amounts product sizes_netted in
        record {
          size = rate_size;
          count = rate_count;
          each = each_weaker IsRate (λ q. IsSizedBy (rate_size q) (rate_count q) q.1) (λ q own. own.known) (currency_parts parts) rates.each;
          small = omega (arith, ints, total_size, range.small);
          few = omega (arith, total_count, range.few);
        }

    rates_done : IsDone p class.IR ss parts
    rates_done = record {
      are = record {
        ascends = currencies_ascend (currency_parts parts) (subst (IsStrictlySortedBy bucket_id_cmp) (sym rates.named) are.by_slot.ascends);
        sized = sized (currency_parts parts) rates_joinable;
      };
      margin = ap (λ q. over_ratio (over_currencies p q) p.ir.hvr) made ∙ whole p ss;
    }

  -- ---- credit

  module _ (c : CreditClass) where
    abbrev points : Bucket → List (Amount CreditPoint)
    points b = points_of c b product fs

    its_credit : HasClass (λ b. (b.terms).id) (λ b. pos_one) points (credit_params p c).buckets
    its_credit = credit_class p facts held bounded amounts product sizes_netted c

    abbrev IsCredit : Whole → Type 0
    IsCredit = IsOwned (λ (b : CreditBucket). (b.terms).id) (λ b. pos_one) points (credit_params p c).buckets its_credit credit_curvature_value (IsSizedIn (λ b. pos_one))

    credit_bucket : (b : Bucket) (m : BucketMargin) → Some m ≡ curvature_of p (slot.Credit c b) (its (slot.Credit c b)) → IsCurvatureSized p (slot.Credit c b) (its (slot.Credit c b)) m → IsCredit (b, m)
    credit_bucket b m value sized =
        let listed = credit_bucket_of (credit_params p c).buckets b in
        let there = points_there c b product fs in
        let is : Some m ≡ option_map (λ x. credit_curvature_value x (points b)) listed = value ∙ ap (λ (xs : List (Amount CreditPoint)). option_map (λ x. credit_curvature_value x xs) listed) there in
        owned (λ (x : CreditBucket). (x.terms).id) (λ x. pos_one) points (credit_params p c).buckets its_credit credit_curvature_value (IsSizedIn (λ x. pos_one)) b m is
        (subst (λ (xs : List (Amount CreditPoint)). IsSomeAnd listed (λ (x : CreditBucket). IsSized alone xs m)) there sized)

    credit_own : (part : Slotted) → IsCurvature (credit_risk_class c) part → IsPartOf listed_of bucket_id_of IsCredit part
    credit_own part v =
        in_credit c (λ s. Some part.1 ≡ curvature_of p s (its s) → IsCurvatureSized p s (its s) part.1 → IsPartOf listed_of bucket_id_of IsCredit (s, part.1))
        (λ b value sized. record { at = b; is = refl; named = refl; own = credit_bucket b part.1 value sized })
        part.0 v.in_class v.value v.sized

    module _ (parts : List Slotted) (are : AreBy (credit_risk_class c) parts) where
      credits : AreAllOf listed_of bucket_id_of IsCredit parts
      credits = all_of listed_of bucket_id_of IsCredit parts (each_weaker (IsCurvature (credit_risk_class c)) (IsPartOf listed_of bucket_id_of IsCredit) credit_own parts are.each)

      credits_ascend : IsStrictlySortedBy bucket_id_cmp (listed_ids (listed_parts parts))
      credits_ascend = subst (IsStrictlySortedBy bucket_id_cmp) (sym credits.named) are.ascends

      no_points : (b : Bucket) → has (listed_ids (listed_parts parts)) b ≡ false → select (as_credit_volatility c b) ss ≡ []
      no_points b none = sym (points_there c b product fs) ∙ ap point_nets (are.complete (slot.Credit c b) refl (ap (λ ks. has ks b) (sym credits.named) ∙ none))

      credit_parts : AreListedParts p (its_class.Credit c) (listed_parts parts)
      credit_parts =
          let few = credit_count p ss c its_credit.in_order in
          record {
            listed = each_listed (λ (b : CreditBucket). (b.terms).id) (λ b. pos_one) points (credit_params p c).buckets its_credit credit_curvature_value (IsSizedIn (λ b. pos_one)) (listed_parts parts) credits.each;
            ascends = listed_ascend (listed_parts parts) credits_ascend;
            sized = sized (listed_parts parts)
                (joinable (λ (b : CreditBucket). (b.terms).id) (λ b. pos_one) points (credit_params p c).buckets its_credit credit_curvature_value (omega (arith, ints, few, few_nets)) (listed_parts parts) credits.each credits_ascend);
          }

      credit_total : over_listed p (its_class.Credit c) (listed_parts parts) ≡ credit_curvature p.lambda_base (credit_params p c) c ss
      credit_total =
          let listed = listed_credit (credit_params p c) in
          let gamma = (credit_params p c).gamma in
          margin_of_parts (λ (b : CreditBucket). (b.terms).id) (λ b. pos_one) points (credit_params p c).buckets its_credit credit_curvature_value (IsSizedIn (λ b. pos_one)) (curvature_over p.lambda_base listed gamma) (curvature_alike p.lambda_base listed gamma)
          (listed_parts parts) credits.each credits_ascend
          ∙ credit_kept p.lambda_base (credit_params p c) c ss (has (listed_ids (listed_parts parts))) no_points

  -- ---- equity and commodities

  module _ (c : PricedClass) where
    abbrev names : Bucket → List (Amount NameVolatility)
    names b = name_volatilities c b product fs

    abbrev name_value : PricedBucket → List (Amount NameVolatility) → BucketMargin
    name_value = price_curvature_value

    its_priced : HasClass (λ b. (b.terms).id) (λ b. b.sigma) names (priced_params p c).buckets
    its_priced = priced_class p facts held bounded amounts product sizes_netted c

    abbrev IsPriced : Whole → Type 0
    IsPriced = IsOwned (λ (b : PricedBucket). (b.terms).id) (λ b. b.sigma) names (priced_params p c).buckets its_priced name_value (IsSizedIn (λ b. b.sigma))

    priced_bucket : (b : Bucket) (m : BucketMargin) → Some m ≡ curvature_of p (slot.Priced c b) (its (slot.Priced c b)) → IsCurvatureSized p (slot.Priced c b) (its (slot.Priced c b)) m → IsPriced (b, m)
    priced_bucket b m value sized =
        let listed = priced_bucket_of (priced_params p c).buckets b in
        let there = names_there c b product fs in
        let is : Some m ≡ option_map (λ x. name_value x (names b)) listed = value ∙ ap (λ (xs : List (Amount NameVolatility)). option_map (λ x. name_value x xs) listed) there in
        owned (λ (x : PricedBucket). (x.terms).id) (λ x. x.sigma) names (priced_params p c).buckets its_priced name_value (IsSizedIn (λ x. x.sigma)) b m is
        (subst (λ (xs : List (Amount NameVolatility)). IsSomeAnd listed (λ (x : PricedBucket). IsSized (λ _. x.sigma) xs m)) there sized)

    priced_own : (part : Slotted) → IsCurvature (priced_risk_class c) part → IsPartOf listed_of bucket_id_of IsPriced part
    priced_own part v =
        in_priced c (λ s. Some part.1 ≡ curvature_of p s (its s) → IsCurvatureSized p s (its s) part.1 → IsPartOf listed_of bucket_id_of IsPriced (s, part.1))
        (λ b value sized. record { at = b; is = refl; named = refl; own = priced_bucket b part.1 value sized })
        part.0 v.in_class v.value v.sized

    module _ (parts : List Slotted) (are : AreBy (priced_risk_class c) parts) where
      priceds : AreAllOf listed_of bucket_id_of IsPriced parts
      priceds = all_of listed_of bucket_id_of IsPriced parts (each_weaker (IsCurvature (priced_risk_class c)) (IsPartOf listed_of bucket_id_of IsPriced) priced_own parts are.each)

      priceds_ascend : IsStrictlySortedBy bucket_id_cmp (listed_ids (listed_parts parts))
      priceds_ascend = subst (IsStrictlySortedBy bucket_id_cmp) (sym priceds.named) are.ascends

      no_names : (b : Bucket) → has (listed_ids (listed_parts parts)) b ≡ false → select (as_price_volatility c b) ss ≡ []
      no_names b none = sym (names_there c b product fs) ∙ ap volatility_nets (are.complete (slot.Priced c b) refl (ap (λ ks. has ks b) (sym priceds.named) ∙ none))

      priced_parts : AreListedParts p (its_class.Priced c) (listed_parts parts)
      priced_parts =
          let few = priced_count p ss c its_priced.in_order in
          record {
            listed = each_listed (λ (b : PricedBucket). (b.terms).id) (λ b. b.sigma) names (priced_params p c).buckets its_priced name_value (IsSizedIn (λ b. b.sigma)) (listed_parts parts) priceds.each;
            ascends = listed_ascend (listed_parts parts) priceds_ascend;
            sized = sized (listed_parts parts)
                (joinable (λ (b : PricedBucket). (b.terms).id) (λ b. b.sigma) names (priced_params p c).buckets its_priced name_value (omega (arith, ints, few, few_nets)) (listed_parts parts) priceds.each priceds_ascend);
          }

      priced_total : over_listed p (its_class.Priced c) (listed_parts parts) ≡ price_curvature p.lambda_base (priced_params p c) c ss
      priced_total =
          let listed = listed_priced (priced_params p c) in
          let gamma = (priced_params p c).gamma in
          margin_of_parts (λ (b : PricedBucket). (b.terms).id) (λ b. b.sigma) names (priced_params p c).buckets its_priced name_value (IsSizedIn (λ b. b.sigma)) (curvature_over p.lambda_base listed gamma) (curvature_alike p.lambda_base listed gamma)
          (listed_parts parts) priceds.each priceds_ascend
          ∙ priced_kept p.lambda_base (priced_params p c) c ss (has (listed_ids (listed_parts parts))) no_names

  -- ---- foreign exchange

  abbrev pairs : List (Amount PairVolatility)
  pairs = pair_volatilities product fs

  abbrev pair_size : Slotted → ℤ
  pair_size part = size_by (λ v. fx_sigma p v.pair) pairs

  abbrev pair_count : Slotted → ℕ
  pair_count part = length pairs

  exchange_own : (part : Slotted) → IsCurvature class.FX part → IsExchange p (its slot.Exchange) part.1
  exchange_own part v =
      in_exchange (λ s. Some part.1 ≡ curvature_of p s (its s) → IsCurvatureSized p s (its s) part.1 → IsExchange p (its slot.Exchange) part.1)
      (λ value sized. record { value = was_value part.1 (fx_curvature_value p (pair_nets (its slot.Exchange))) value; sized = sized })
      part.0 v.in_class v.value v.sized

  single_of : (part : Slotted) → IsCurvature class.FX part → slot_bucket part.0 ≡ id.Single
  single_of part v = in_exchange (λ s. slot_bucket s ≡ id.Single) refl part.0 v.in_class

  -- two in order are not the same
  two_singles : (part next : Slotted) (rest : List Slotted) → IsStrictlySortedBy bucket_id_cmp (ids (part ∷ next ∷ rest)) → slot_bucket part.0 ≡ id.Single → slot_bucket next.0 ≡ id.Single → ⊥
  unfolding IsStrictlySortedBy
  two_singles part next rest s first second =
      let same : bucket_id_cmp (slot_bucket part.0) (slot_bucket next.0) ≡ bucket_id_cmp id.Single id.Single = ap (λ k. bucket_id_cmp k (slot_bucket next.0)) first ∙ ap (bucket_id_cmp id.Single) second in
      let tied : bucket_id_cmp id.Single id.Single ≡ Equal = refl in
      let less : bucket_id_cmp (slot_bucket part.0) (slot_bucket next.0) ≡ Less = s.0.0 in
      absurd (cc)

  abbrev margin_of : BucketMargin → ℤ
  margin_of v = curvature_part p.lambda_base (record { at = id.Single; value = v } ∷ []) v.k

  one_total : (part : Slotted) → IsExchange p (its slot.Exchange) part.1 → over_single p (part ∷ []) ≡ fx_curvature p ss
  one_total part own =
      ap (curvature_part p.lambda_base (record { at = part.0; value = part.1 } ∷ [])) (+ℤ_idr (part.1).k)
      ∙ ap margin_of (own.value ∙ ap (fx_curvature_value p) (pairs_there product fs))

  one_sized : (part : Slotted) → IsExchange p (its slot.Exchange) part.1 → IsSizedBy (pair_size part) (pair_count part) part.1
  one_sized part own = subst (λ (xs : List (Amount PairVolatility)). IsSized (λ v. fx_sigma p v.pair) xs part.1) (pairs_there product fs) own.sized

  exchange_sized : (parts : List Slotted) → AreBy class.FX parts → AreSized parts
  exchange_sized [] are = sized [] record { size = pair_size; count = pair_count; each = tt; small = omega (arith, ints); few = omega arith }
  exchange_sized (part ∷ []) are =
      let range = pairs_range p facts held bounded amounts product sizes_netted in
      let small = range.weighed.small in
      let few = range.weighed.few in
      sized (part ∷ []) record {
        size = pair_size;
        count = pair_count;
        each = (one_sized part (exchange_own part are.each.0), tt);
        small = omega (arith, ints, small);
        few = omega (arith, few, sum_by-cons pair_count part []);
      }
  exchange_sized (part ∷ next ∷ rest) are = absurd (two_singles part next rest are.ascends (single_of part are.each.0) (single_of next are.each.1.0))

  exchange_total : (parts : List Slotted) → AreBy class.FX parts → over_single p parts ≡ fx_curvature p ss
  exchange_total [] are = sym (pairs_none p ss (sym (pairs_there product fs) ∙ ap pair_nets (are.complete slot.Exchange refl refl)))
  exchange_total (part ∷ []) are = one_total part (exchange_own part are.each.0)
  exchange_total (part ∷ next ∷ rest) are = absurd (two_singles part next rest are.ascends (single_of part are.each.0) (single_of next are.each.1.0))

  -- ---- each class

  module _ (parts : List Slotted) where
    pub done : (k : RiskClass) → AreCurvatures p product k (factors_of held) parts → IsDone p k (nets_in product (factors_of held)) parts
    done class.IR are = rates_done parts are
    done class.CreditQ are = record { are = credit_parts Qualifying parts are.by_slot; margin = credit_total Qualifying parts are.by_slot }
    done class.CreditNonQ are = record { are = credit_parts NonQualifying parts are.by_slot; margin = credit_total NonQualifying parts are.by_slot }
    done class.Equity are = record { are = priced_parts Equities parts are.by_slot; margin = priced_total Equities parts are.by_slot }
    done class.Commodity are = record { are = priced_parts Commodities parts are.by_slot; margin = priced_total Commodities parts are.by_slot }
    done class.FX are = record { are = exchange_sized parts are.by_slot; margin = exchange_total parts are.by_slot }

-- ---- a book that can be margined

pub curvatures_fit : (p : Params) → IsParams p → (fs : List (FactorKey × Holding)) (book : IsMarginable p fs) → SizesAreNetted book.held → (product : ProductClass) (k : RiskClass) (parts : List Slotted) → AreCurvatures p product k fs parts → IsDone p k (nets_in product fs) parts
curvatures_fit p facts _ book netted product k parts all =
    subst (λ f. AreCurvatures p product k f parts → IsDone p k (nets_in product f) parts) (sym book.are)
    (λ a. done p facts book.held book.bounded book.amounts product netted parts k a) all

-- the values of a class give these
pub class_curvatures : (p : Params) (product : ProductClass) (k : RiskClass) (fs : List (FactorKey × Holding)) (vs : List PlaceValue) → AreClassValues p product k fs vs → AreCurvatures p product k fs (curvature_parts vs)
class_curvatures p product k fs vs a = record {
  by_slot = curvature_are p product k fs vs a;
  of_rates = λ e. curvature_ids p product fs vs (subst (λ c. AreClassValues p product c fs vs) e a);
}
