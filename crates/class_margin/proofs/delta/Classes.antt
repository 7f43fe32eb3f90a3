-- The delta parts of each class: in range, and their margin the rule's.
use Rattle.std.proofs.Common.{◌≡◌, ℕ, List, [], ◌∷◌, map, Some, false, refl, sym, ap, ◌∙◌, subst, pos, ◌≤ℤ◌, arith}
use Rattle.std.specs.Prelude.{option_map, IsSomeAnd}
use Rattle.std.specs.List.Sorted.{IsStrictlySortedBy}
use Rattle.std.proofs.lemmas.Int.{ints}
use Rattle.class_rates.specs.SimmKinds.declared.kinds.ProductClass.{ProductClass}
use Rattle.class_rates.specs.SimmKinds.declared.kinds.RiskClass.{RiskClass}
use Rattle.class_rates.specs.SimmKinds.declared.kinds.RiskClass.TheVariants as class
use Rattle.class_rates.specs.SimmKinds.declared.kinds.BucketId.TheVariants as id
use Rattle.class_rates.specs.SimmKinds.declared.bucket.Bucket.{Bucket}
use Rattle.class_rates.specs.SimmKinds.declared.key.FactorKey.{FactorKey}
use Rattle.class_rates.specs.SimmKinds.declared.row.CrifRow.{CrifRow}
use Rattle.class_rates.specs.SimmKinds.Factors.{bucket_id_of}
use Rattle.class_rates.specs.SimmKinds.Order.{bucket_id_cmp}
use Rattle.class_rates.specs.SimmRules.declared.values.BucketMargin.{BucketMargin}
use Rattle.class_rates.specs.SimmRules.Params.{Params, CreditBucket, PricedBucket}
use Rattle.class_rates.specs.SimmRules.Net.{Sensitivity}
use Rattle.class_rates.specs.SimmRules.Risks.{CreditPoint, Amount, select}
use Rattle.class_rates.specs.SimmRules.declared.classes.CreditClass.{CreditClass}
use Rattle.class_rates.specs.SimmRules.declared.classes.CreditClass.TheVariants.{Qualifying, NonQualifying}
use Rattle.class_rates.specs.SimmRules.declared.classes.PricedClass.{PricedClass}
use Rattle.class_rates.specs.SimmRules.declared.classes.PricedClass.TheVariants.{Equities, Commodities}
use Rattle.class_rates.specs.SimmRules.Across.{margin_over}
use Rattle.class_rates.specs.SimmRules.Rates.{RateIn, rates_in, currency_value}
use Rattle.class_rates.specs.SimmRules.Credit.{as_credit, credit_params, listed_credit, weighted_point, credit_value, credit_delta}
use Rattle.class_rates.specs.SimmRules.Priced.{as_price, priced_params, listed_priced, weighted_name, price_value, price_delta}
use Rattle.class_rates.specs.SimmRules.ForeignExchange.{fx_weight, weighted_currency, fx_value, fx_delta}
use Rattle.class_rates.specs.SimmParams.Facts.{IsParams}
use Rattle.class_rates.specs.SimmParams.Weighed.{AreRatesWeighed}
use Rattle.class_rates.specs.SimmParams.ListedBuckets.{credit_bucket_of, priced_bucket_of}
use Rattle.class_rates.specs.SimmRules.RiskClasses.{credit_risk_class, priced_risk_class}
use Rattle.class_rates.specs.FactorBook.declared.holding.Holding.{Holding}
use Rattle.class_rates.specs.FactorBook.declared.place.Stand.TheVariants as stand
use Rattle.class_rates.specs.FactorBook.declared.slot.Slot.{Slot}
use Rattle.class_rates.specs.FactorBook.declared.slot.Slot.TheVariants as slot
use Rattle.class_rates.specs.FactorBook.declared.value.PlaceValue.{PlaceValue}
use Rattle.class_rates.specs.FactorBook.Factors.{factors_of}
use Rattle.class_rates.specs.FactorBook.Places.{factors_at}
use Rattle.class_rates.proofs.RateColumns.{weight_positive}
use Rattle.class_rates.proofs.RatePlaces.{rates_there}
use Rattle.class_credit.specs.Points.{points_in, point_nets}
use Rattle.class_credit.proofs.CreditPoints.{points_there}
use Rattle.class_priced.specs.Names.{names_in, name_nets}
use Rattle.class_priced.proofs.PricedNames.{names_there}
use Rattle.class_exchange.specs.Currencies.{currencies_in, risky_nets}
use Rattle.class_exchange.proofs.RiskyCurrencies.{currencies_there}
use Rattle.class_rates.proofs.MeasuredBucket.Lists.{each_weaker}
use Rattle.book_range.specs.Bounded.{IsBounded, IsMarginable}
use Rattle.class_margin.specs.Across.{buckets_of, margin_across, AreListedParts, AreParts, IsMargin}
use Rattle.class_margin.specs.Parts.{currency_of, currency_parts, delta_parts, listed_of, listed_parts, single_k}
use Rattle.class_margin.specs.declared.listed.ListedClass.TheVariants as its_class
use Rattle.class_margin.specs.delta.Class.{class_delta_of}
use Rattle.class_margin.specs.names_delta.Combine.{named_margin}
use Rattle.class_margin.specs.names_delta.Values.{nets_in, IsSized}
use Rattle.class_margin.specs.rates_delta.Parts.{currencies_of, AreParts as AreRateParts, buckets_of as rate_buckets, margin_over as rates_margin}
use Rattle.class_margin.specs.value.Delta.{delta_of, IsDeltaSized}
use Rattle.class_margin.specs.value.Values.{AreClassValues}
use Rattle.class_margin.proofs.Valued.{Slotted, Whole, listed_ids}
use Rattle.class_margin.proofs.delta.Bounds.{gross_low, value_most, was_value, credit_class, currencies_range, priced_class, rates_range, HasClass}
use Rattle.class_margin.proofs.delta.Owned.{has, each_listed, owned, margin_of_parts, IsOwned}
use Rattle.class_margin.proofs.delta.Sizes.{known_in, parts_sized, IsSizedIn}
use Rattle.class_margin.proofs.delta.Totals.{alike_margin}
use Rattle.class_margin.proofs.names_delta.Empty.{credit_kept, currencies_none, priced_kept}
use Rattle.class_margin.proofs.names_delta.Shrinking.{SizesAreNetted}
use Rattle.class_margin.proofs.rates_delta.Standing.{buckets_are}
use Rattle.class_margin.proofs.rates_delta.Wholes.{are_parts, whole}
use Rattle.class_margin.proofs.value.Sorts.{all_of, by_currency, in_credit, in_exchange, in_priced, in_rates, AreAllOf, IsPartOf}
use Rattle.class_margin.proofs.value.Parts.{delta_are, rate_ids, ArePartsBy, IsValuedBy}

points_gross : (b : CreditBucket) (points : List (Amount CreditPoint)) → pos 0 ≤ℤ (credit_value b points).gross
points_gross b points = gross_low (map (weighted_point (b.terms).weight ((b.terms).thresholds).delta points) points)

names_gross : (b : PricedBucket) (names : List (Amount (List ℕ))) → pos 0 ≤ℤ (price_value b names).gross
names_gross b names = gross_low (map (λ (a : Amount (List ℕ)). weighted_name (b.terms).weight ((b.terms).thresholds).delta a.of a.amount) names)

-- what the parts of a class come to
pub record IsDone (p : Params) (k : RiskClass) (ss : List Sensitivity) (parts : List Slotted) : Type 0 where
  pub are : AreParts p (buckets_of k) parts
  pub margin : margin_across p (buckets_of k) parts ≡ class_delta_of p ss k

-- of foreign exchange
record IsExchange (p : Params) (own : List (FactorKey × Holding)) (m : BucketMargin) : Type 0 where
  value : m ≡ fx_value p (risky_nets p own)
  sized : IsSized (fx_weight p) (risky_nets p own) m

module _ (p : Params) (facts : IsParams p) (held : List CrifRow) (bounded : IsBounded p held) (product : ProductClass) (sizes : SizesAreNetted held) where
  abbrev fs : List (FactorKey × Holding)
  fs = factors_of held

  abbrev ss : List Sensitivity
  ss = nets_in product fs

  abbrev its : Slot → List (FactorKey × Holding)
  its s = factors_at (record { product = product; stand = stand.Delta s }) fs

  abbrev IsDelta : RiskClass → Slotted → Type 0
  IsDelta k = IsValuedBy its (delta_of p) (IsDeltaSized p) k

  abbrev AreDeltas : RiskClass → List Slotted → Type 0
  AreDeltas k parts = ArePartsBy its (delta_of p) (IsDeltaSized p) k parts

  -- ---- interest rates

  abbrev rate_value : List ℕ → BucketMargin
  rate_value currency = currency_value p currency (rates_in currency ss)

  abbrev IsRate : List ℕ × BucketMargin → Type 0
  IsRate q = q.1 ≡ rate_value q.0

  rate_own : (part : Slotted) → IsDelta class.IR part → IsPartOf currency_of id.Currency IsRate part
  rate_own part v =
      in_rates (λ s. Some part.1 ≡ delta_of p s (its s) → IsPartOf currency_of id.Currency IsRate (s, part.1))
      (λ currency value. record {
        at = currency;
        is = refl;
        named = refl;
        own = was_value part.1 (rate_value currency) (value ∙ ap (λ (xs : List (Amount RateIn)). Some (currency_value p currency xs)) (rates_there currency product fs));
      })
      part.0 v.in_class v.value

  module _ (weighed : (currency : List ℕ) → AreRatesWeighed p currency) (vs : List PlaceValue) (a : AreClassValues p product class.IR fs vs) where
    rates : AreAllOf currency_of id.Currency IsRate (delta_parts vs)
    rates = all_of currency_of id.Currency IsRate (delta_parts vs) (each_weaker (IsDelta class.IR) (IsPartOf currency_of id.Currency IsRate) rate_own (delta_parts vs) (delta_are p product class.IR fs vs a).each)

    made : currency_parts (delta_parts vs) ≡ rate_buckets p ss
    made = by_currency rate_value (currency_parts (delta_parts vs)) (currencies_of ss) (rates.named ∙ rate_ids p product fs vs a ∙ buckets_are product fs) rates.each

    rates_done : IsDone p class.IR ss (delta_parts vs)
    rates_done = record {
      are = subst AreRateParts (sym made) (are_parts p ss facts weighed (rates_range p facts held bounded product sizes (weight_positive p weighed)));
      margin = ap (rates_margin p) made ∙ whole p ss;
    }

  -- ---- credit

  module _ (c : CreditClass) where
    abbrev points : Bucket → List (Amount CreditPoint)
    points b = points_in c b product fs

    its_credit : HasClass (λ b. (b.terms).id) (λ b. (b.terms).weight) points (credit_params p c).buckets
    its_credit = credit_class p facts held bounded product sizes c

    abbrev IsCredit : Whole → Type 0
    IsCredit = IsOwned (λ (b : CreditBucket). (b.terms).id) (λ b. (b.terms).weight) points (credit_params p c).buckets its_credit credit_value (IsSizedIn (λ b. (b.terms).weight))

    credit_bucket : (b : Bucket) (m : BucketMargin) → Some m ≡ delta_of p (slot.Credit c b) (its (slot.Credit c b)) → IsDeltaSized p (slot.Credit c b) (its (slot.Credit c b)) m → IsCredit (b, m)
    credit_bucket b m value sized =
        let listed = credit_bucket_of (credit_params p c).buckets b in
        let there = points_there c b product fs in
        let is : Some m ≡ option_map (λ x. credit_value x (points b)) listed = value ∙ ap (λ (xs : List (Amount CreditPoint)). option_map (λ x. credit_value x xs) listed) there in
        owned (λ (x : CreditBucket). (x.terms).id) (λ x. (x.terms).weight) points (credit_params p c).buckets its_credit credit_value (IsSizedIn (λ x. (x.terms).weight)) b m is
        (known_in (λ (x : CreditBucket). (x.terms).weight) (λ x. credit_value x (points b)) (λ x. points_gross x (points b)) (points b) m listed is
        (subst (λ (xs : List (Amount CreditPoint)). IsSomeAnd listed (λ x. IsSized (λ _. (x.terms).weight) xs m)) there sized))

    credit_own : (part : Slotted) → IsDelta (credit_risk_class c) part → IsPartOf listed_of bucket_id_of IsCredit part
    credit_own part v =
        in_credit c (λ s. Some part.1 ≡ delta_of p s (its s) → IsDeltaSized p s (its s) part.1 → IsPartOf listed_of bucket_id_of IsCredit (s, part.1))
        (λ b value sized. record { at = b; is = refl; named = refl; own = credit_bucket b part.1 value sized })
        part.0 v.in_class v.value v.sized

    module _ (parts : List Slotted) (are : AreDeltas (credit_risk_class c) parts) where
      credits : AreAllOf listed_of bucket_id_of IsCredit parts
      credits = all_of listed_of bucket_id_of IsCredit parts (each_weaker (IsDelta (credit_risk_class c)) (IsPartOf listed_of bucket_id_of IsCredit) credit_own parts are.each)

      credits_ascend : IsStrictlySortedBy bucket_id_cmp (listed_ids (listed_parts parts))
      credits_ascend = subst (IsStrictlySortedBy bucket_id_cmp) (sym credits.named) are.ascends

      no_points : (b : Bucket) → has (listed_ids (listed_parts parts)) b ≡ false → select (as_credit c b) ss ≡ []
      no_points b none = sym (points_there c b product fs) ∙ ap point_nets (are.complete (slot.Credit c b) refl (ap (λ ks. has ks b) (sym credits.named) ∙ none))

      credit_parts : AreListedParts p (its_class.Credit c) parts
      credit_parts = record {
        listed = each_listed (λ (b : CreditBucket). (b.terms).id) (λ b. (b.terms).weight) points (credit_params p c).buckets its_credit credit_value (IsSizedIn (λ b. (b.terms).weight)) (listed_parts parts) credits.each;
        sized = parts_sized (λ (b : CreditBucket). (b.terms).id) (λ b. (b.terms).weight) points (credit_params p c).buckets its_credit credit_value (listed_parts parts) credits.each credits_ascend;
      }

      credit_total : named_margin p (its_class.Credit c) (listed_parts parts) ≡ credit_delta (credit_params p c) c ss
      credit_total =
          let listed = listed_credit (credit_params p c) in
          let gamma = (credit_params p c).gamma in
          margin_of_parts (λ (b : CreditBucket). (b.terms).id) (λ b. (b.terms).weight) points (credit_params p c).buckets its_credit credit_value (IsSizedIn (λ b. (b.terms).weight)) (margin_over listed gamma) (alike_margin listed gamma)
          (listed_parts parts) credits.each credits_ascend
          ∙ credit_kept (credit_params p c) c ss (has (listed_ids (listed_parts parts))) no_points

  -- ---- equity and commodities

  module _ (c : PricedClass) where
    abbrev names : Bucket → List (Amount (List ℕ))
    names b = names_in c b product fs

    its_priced : HasClass (λ b. (b.terms).id) (λ b. (b.terms).weight) names (priced_params p c).buckets
    its_priced = priced_class p facts held bounded product sizes c

    abbrev IsPriced : Whole → Type 0
    IsPriced = IsOwned (λ (b : PricedBucket). (b.terms).id) (λ b. (b.terms).weight) names (priced_params p c).buckets its_priced price_value (IsSizedIn (λ b. (b.terms).weight))

    priced_bucket : (b : Bucket) (m : BucketMargin) → Some m ≡ delta_of p (slot.Priced c b) (its (slot.Priced c b)) → IsDeltaSized p (slot.Priced c b) (its (slot.Priced c b)) m → IsPriced (b, m)
    priced_bucket b m value sized =
        let listed = priced_bucket_of (priced_params p c).buckets b in
        let there = names_there c b product fs in
        let is : Some m ≡ option_map (λ x. price_value x (names b)) listed = value ∙ ap (λ (xs : List (Amount (List ℕ))). option_map (λ x. price_value x xs) listed) there in
        owned (λ (x : PricedBucket). (x.terms).id) (λ x. (x.terms).weight) names (priced_params p c).buckets its_priced price_value (IsSizedIn (λ x. (x.terms).weight)) b m is
        (known_in (λ (x : PricedBucket). (x.terms).weight) (λ x. price_value x (names b)) (λ x. names_gross x (names b)) (names b) m listed is
        (subst (λ (xs : List (Amount (List ℕ))). IsSomeAnd listed (λ x. IsSized (λ _. (x.terms).weight) xs m)) there sized))

    priced_own : (part : Slotted) → IsDelta (priced_risk_class c) part → IsPartOf listed_of bucket_id_of IsPriced part
    priced_own part v =
        in_priced c (λ s. Some part.1 ≡ delta_of p s (its s) → IsDeltaSized p s (its s) part.1 → IsPartOf listed_of bucket_id_of IsPriced (s, part.1))
        (λ b value sized. record { at = b; is = refl; named = refl; own = priced_bucket b part.1 value sized })
        part.0 v.in_class v.value v.sized

    module _ (parts : List Slotted) (are : AreDeltas (priced_risk_class c) parts) where
      priceds : AreAllOf listed_of bucket_id_of IsPriced parts
      priceds = all_of listed_of bucket_id_of IsPriced parts (each_weaker (IsDelta (priced_risk_class c)) (IsPartOf listed_of bucket_id_of IsPriced) priced_own parts are.each)

      priceds_ascend : IsStrictlySortedBy bucket_id_cmp (listed_ids (listed_parts parts))
      priceds_ascend = subst (IsStrictlySortedBy bucket_id_cmp) (sym priceds.named) are.ascends

      no_names : (b : Bucket) → has (listed_ids (listed_parts parts)) b ≡ false → select (as_price c b) ss ≡ []
      no_names b none = sym (names_there c b product fs) ∙ ap name_nets (are.complete (slot.Priced c b) refl (ap (λ ks. has ks b) (sym priceds.named) ∙ none))

      priced_parts : AreListedParts p (its_class.Priced c) parts
      priced_parts = record {
        listed = each_listed (λ (b : PricedBucket). (b.terms).id) (λ b. (b.terms).weight) names (priced_params p c).buckets its_priced price_value (IsSizedIn (λ b. (b.terms).weight)) (listed_parts parts) priceds.each;
        sized = parts_sized (λ (b : PricedBucket). (b.terms).id) (λ b. (b.terms).weight) names (priced_params p c).buckets its_priced price_value (listed_parts parts) priceds.each priceds_ascend;
      }

      priced_total : named_margin p (its_class.Priced c) (listed_parts parts) ≡ price_delta (priced_params p c) c ss
      priced_total =
          let listed = listed_priced (priced_params p c) in
          let gamma = (priced_params p c).gamma in
          margin_of_parts (λ (b : PricedBucket). (b.terms).id) (λ b. (b.terms).weight) names (priced_params p c).buckets its_priced price_value (IsSizedIn (λ b. (b.terms).weight)) (margin_over listed gamma) (alike_margin listed gamma)
          (listed_parts parts) priceds.each priceds_ascend
          ∙ priced_kept (priced_params p c) c ss (has (listed_ids (listed_parts parts))) no_names

  -- ---- foreign exchange

  module _ (low : (currency : List ℕ) → pos 0 ≤ℤ fx_weight p currency) where
    abbrev risky : List (Amount (List ℕ))
    risky = currencies_in p product fs

    one_exchange : (m : BucketMargin) → IsExchange p (its slot.Exchange) m → IsMargin m.k × (m.k ≡ fx_delta p ss)
    one_exchange m own =
        let there = currencies_there p product fs in
        let value : m ≡ fx_value p risky = own.value ∙ ap (fx_value p) there in
        let sized : IsSized (fx_weight p) risky m = subst (λ (xs : List (Amount (List ℕ))). IsSized (fx_weight p) xs m) there own.sized in
        let gross : pos 0 ≤ℤ m.gross = subst (λ (v : BucketMargin). pos 0 ≤ℤ v.gross) (sym value) (gross_low (map (weighted_currency p) risky)) in (
          record { low = sized.not_negative; high = omega (arith, ints, value_most (fx_weight p) risky m (currencies_range p facts held bounded product sizes low) sized gross) },
          ap (λ (v : BucketMargin). v.k) value,
        )

    exchange_own : (part : Slotted) → IsDelta class.FX part → IsExchange p (its slot.Exchange) part.1
    exchange_own part v =
        in_exchange (λ s. Some part.1 ≡ delta_of p s (its s) → IsDeltaSized p s (its s) part.1 → IsExchange p (its slot.Exchange) part.1)
        (λ value sized. record { value = was_value part.1 (fx_value p (risky_nets p (its slot.Exchange))) value; sized = sized })
        part.0 v.in_class v.value v.sized

    exchange_done : (parts : List Slotted) → AreDeltas class.FX parts → IsMargin (single_k parts) × (single_k parts ≡ fx_delta p ss)
    exchange_done [] are = (
      record { low = omega (arith, ints); high = omega (arith, ints) },
      sym (currencies_none p ss (sym (currencies_there p product fs) ∙ ap (risky_nets p) (are.complete slot.Exchange refl refl))),
    )
    exchange_done (part ∷ parts) are = one_exchange part.1 (exchange_own part are.each.0)

  -- ---- each class

  module _ (weighed : (currency : List ℕ) → AreRatesWeighed p currency) (low : (currency : List ℕ) → pos 0 ≤ℤ fx_weight p currency) (vs : List PlaceValue) where
    pub done : (k : RiskClass) → AreClassValues p product k (factors_of held) vs → IsDone p k (nets_in product (factors_of held)) (delta_parts vs)
    done class.IR a = rates_done weighed vs a
    done class.CreditQ a = let are = delta_are p product class.CreditQ fs vs a in record { are = credit_parts Qualifying (delta_parts vs) are; margin = credit_total Qualifying (delta_parts vs) are }
    done class.CreditNonQ a = let are = delta_are p product class.CreditNonQ fs vs a in record { are = credit_parts NonQualifying (delta_parts vs) are; margin = credit_total NonQualifying (delta_parts vs) are }
    done class.Equity a = let are = delta_are p product class.Equity fs vs a in record { are = priced_parts Equities (delta_parts vs) are; margin = priced_total Equities (delta_parts vs) are }
    done class.Commodity a = let are = delta_are p product class.Commodity fs vs a in record { are = priced_parts Commodities (delta_parts vs) are; margin = priced_total Commodities (delta_parts vs) are }
    done class.FX a = let both = exchange_done low (delta_parts vs) (delta_are p product class.FX fs vs a) in record { are = both.0; margin = both.1 }

-- ---- a book that can be margined

pub deltas_fit : (p : Params) → IsParams p → ((currency : List ℕ) → AreRatesWeighed p currency) → ((currency : List ℕ) → pos 0 ≤ℤ fx_weight p currency) → (fs : List (FactorKey × Holding)) (book : IsMarginable p fs) → SizesAreNetted book.held → (product : ProductClass) (k : RiskClass) (vs : List PlaceValue)
    → AreClassValues p product k fs vs → IsDone p k (nets_in product fs) (delta_parts vs)
deltas_fit p facts weighed low _ book sizes product k vs all =
    subst (λ f. AreClassValues p product k f vs → IsDone p k (nets_in product f) (delta_parts vs)) (sym book.are)
    (λ a. done p facts book.held book.bounded product sizes weighed low vs k a) all
