-- The vega parts of each class: in range, and their margin the rule's.
use Rattle.std.proofs.Common.{◌≡◌, ℕ, List, [], ◌∷◌, Some, true, false, refl, sym, ap, ◌∙◌, subst, ℤ, pos, arith}
use Rattle.std.specs.Prelude.{option_map, IsSomeAnd}
use Rattle.std.specs.List.{list_all}
use Rattle.std.specs.List.Sorted.{IsStrictlySortedBy}
use Rattle.std.proofs.lemmas.Int.{ints}
use Rattle.class_rates.specs.SimmKinds.declared.kinds.ProductClass.{ProductClass}
use Rattle.class_rates.specs.SimmKinds.declared.kinds.RiskClass.{RiskClass}
use Rattle.class_rates.specs.SimmKinds.declared.kinds.RiskClass.TheVariants as class
use Rattle.class_rates.specs.SimmKinds.declared.kinds.BucketId.TheVariants as id
use Rattle.class_rates.specs.SimmKinds.declared.bucket.Bucket.{Bucket}
use Rattle.class_rates.specs.SimmKinds.declared.key.FactorKey.{FactorKey}
use Rattle.class_rates.specs.SimmKinds.declared.row.CrifRow.{CrifRow}
use Rattle.class_rates.specs.SimmKinds.Batch.{is_in_range}
use Rattle.class_rates.specs.SimmKinds.Factors.{bucket_id_of}
use Rattle.class_rates.specs.SimmKinds.Order.{bucket_id_cmp}
use Rattle.class_rates.specs.SimmRules.declared.values.BucketMargin.{BucketMargin}
use Rattle.class_rates.specs.SimmRules.Params.{Params, CreditBucket, PricedBucket}
use Rattle.class_rates.specs.SimmRules.Net.{Sensitivity}
use Rattle.class_rates.specs.SimmRules.Risks.{CreditPoint, Amount, select}
use Rattle.class_rates.specs.SimmRules.declared.classes.CreditClass.{CreditClass}
use Rattle.class_rates.specs.SimmRules.declared.classes.CreditClass.TheVariants.{Qualifying, NonQualifying}
use Rattle.class_rates.specs.SimmRules.declared.classes.PricedClass.{PricedClass}
use Rattle.class_rates.specs.SimmRules.declared.classes.PricedClass.TheVariants.{Equities, Commodities}
use Rattle.class_rates.specs.SimmRules.Across.{margin_over}
use Rattle.class_rates.specs.SimmRules.Rates.{VolatilityIn, volatilities_in, volatility_currencies, currency_vega_value}
use Rattle.class_rates.specs.SimmRules.Credit.{as_credit_volatility, credit_params, listed_credit, credit_vega_value, credit_vega}
use Rattle.class_rates.specs.SimmRules.Priced.{NameVolatility, as_price_volatility, priced_params, listed_priced, price_vega_value, price_vega}
use Rattle.class_rates.specs.SimmRules.ForeignExchange.{PairVolatility, fx_sigma, fx_vega_value, fx_vega}
use Rattle.class_rates.specs.SimmParams.Facts.{IsParams}
use Rattle.class_rates.specs.SimmParams.Weighed.{AreRatesWeighed}
use Rattle.class_rates.specs.SimmParams.ListedBuckets.{credit_bucket_of, priced_bucket_of}
use Rattle.class_rates.specs.SimmRules.RiskClasses.{credit_risk_class, priced_risk_class}
use Rattle.class_rates.specs.FactorBook.declared.holding.Holding.{Holding}
use Rattle.class_rates.specs.FactorBook.declared.place.Stand.TheVariants as stand
use Rattle.class_rates.specs.FactorBook.declared.slot.Slot.{Slot}
use Rattle.class_rates.specs.FactorBook.declared.slot.Slot.TheVariants as slot
use Rattle.class_rates.specs.FactorBook.declared.value.PlaceValue.{PlaceValue}
use Rattle.class_rates.specs.FactorBook.Factors.{factors_of}
use Rattle.class_rates.specs.FactorBook.Places.{factors_at}
use Rattle.class_rates.proofs.VolatilityPlaces.{volatilities_there}
use Rattle.class_credit.specs.Points.{point_nets}
use Rattle.class_credit.proofs.VolatilePoints.{volatilities_there as points_there}
use Rattle.class_priced.specs.Names.{volatility_nets}
use Rattle.class_priced.proofs.VolatileNames.{volatilities_there as names_there}
use Rattle.class_exchange.specs.Pairs.{pair_nets}
use Rattle.class_exchange.proofs.VolatilePairs.{pairs_there}
use Rattle.class_rates.proofs.MeasuredBucket.Lists.{each_weaker}
use Rattle.book_range.specs.Bounded.{IsBounded, IsMarginable}
use Rattle.class_margin.specs.Across.{buckets_of, margin_across, AreListedParts, AreParts, IsMargin}
use Rattle.class_margin.specs.Parts.{currency_of, currency_parts, listed_of, listed_parts, single_k, vega_parts}
use Rattle.class_margin.specs.declared.listed.ListedClass.TheVariants as its_class
use Rattle.class_margin.specs.names_delta.Combine.{named_margin}
use Rattle.class_margin.specs.names_delta.Values.{nets_in}
use Rattle.class_margin.specs.rates_delta.Parts.{AreParts as AreRateParts, margin_over as rates_margin}
use Rattle.class_margin.specs.value.Values.{AreClassValues}
use Rattle.class_margin.specs.value.Vega.{vega_of, IsVegaSized}
use Rattle.class_margin.specs.vega.Combine.{currency_buckets}
use Rattle.class_margin.specs.vega.Values.{IsSized}
use Rattle.class_margin.specs.volatilities.Places.{points_of, name_volatilities, pair_volatilities}
use Rattle.class_margin.specs.volatilities.Ranges.{alone}
use Rattle.class_margin.specs.volatility.Vega.{class_vega_of}
use Rattle.class_margin.proofs.Valued.{Slotted, Whole, listed_ids}
use Rattle.class_margin.proofs.delta.Bounds.{was_value, HasClass}
use Rattle.class_margin.proofs.delta.Owned.{has, each_listed, owned, margin_of_parts, IsOwned}
use Rattle.class_margin.proofs.delta.Totals.{alike_margin}
use Rattle.class_margin.proofs.names_delta.Shrinking.{SizesAreNetted}
use Rattle.class_margin.proofs.value.Sorts.{all_of, by_currency, in_credit, in_exchange, in_priced, in_rates, AreAllOf, IsPartOf}
use Rattle.class_margin.proofs.value.Parts.{vega_are, vega_ids, ArePartsBy, IsValuedBy}
use Rattle.class_margin.proofs.vega.Idle.{credit_kept, pairs_none, priced_kept, whole}
use Rattle.class_margin.proofs.vega.RateBuckets.{buckets_are}
use Rattle.class_margin.proofs.vega.RateClass.{are_parts}
use Rattle.class_margin.proofs.volatility.Bounds.{credit_class, priced_class, rates_range}
use Rattle.class_margin.proofs.volatility.Sizes.{parts_sized, IsSizedIn}

-- a weight of 1
abbrev pos_one : ℤ
pos_one = pos 10000

-- what the parts of a class come to
pub record IsDone (p : Params) (k : RiskClass) (ss : List Sensitivity) (parts : List Slotted) : Type 0 where
  pub are : AreParts p (buckets_of k) parts
  pub margin : margin_across p (buckets_of k) parts ≡ class_vega_of p ss k

-- of foreign exchange
record IsExchange (p : Params) (own : List (FactorKey × Holding)) (m : BucketMargin) : Type 0 where
  value : m ≡ fx_vega_value p (pair_nets own)
  sized : IsSized (λ v. fx_sigma p v.pair) (pair_nets own) m

module _ (p : Params) (facts : IsParams p) (held : List CrifRow) (bounded : IsBounded p held) (amounts : list_all is_in_range held ≡ true) (product : ProductClass) (sizes : SizesAreNetted held) where
  abbrev fs : List (FactorKey × Holding)
  fs = factors_of held

  abbrev ss : List Sensitivity
  ss = nets_in product fs

  abbrev its : Slot → List (FactorKey × Holding)
  its s = factors_at (record { product = product; stand = stand.Volatility s }) fs

  abbrev IsVega : RiskClass → Slotted → Type 0
  IsVega k = IsValuedBy its (vega_of p) (IsVegaSized p) k

  abbrev AreVegas : RiskClass → List Slotted → Type 0
  AreVegas k parts = ArePartsBy its (vega_of p) (IsVegaSized p) k parts

  -- ---- interest rates

  abbrev rate_value : List ℕ → BucketMargin
  rate_value currency = currency_vega_value p currency (volatilities_in currency ss)

  abbrev IsRate : List ℕ × BucketMargin → Type 0
  IsRate q = q.1 ≡ rate_value q.0

  rate_own : (part : Slotted) → IsVega class.IR part → IsPartOf currency_of id.Currency IsRate part
  rate_own part v =
      in_rates (λ s. Some part.1 ≡ vega_of p s (its s) → IsPartOf currency_of id.Currency IsRate (s, part.1))
      (λ currency value. record {
        at = currency;
        is = refl;
        named = refl;
        own = was_value part.1 (rate_value currency) (value ∙ ap (λ (xs : List (Amount VolatilityIn)). Some (currency_vega_value p currency xs)) (volatilities_there currency product fs));
      })
      part.0 v.in_class v.value

  module _ (weighed : (currency : List ℕ) → AreRatesWeighed p currency) (vs : List PlaceValue) (a : AreClassValues p product class.IR fs vs) where
    rates : AreAllOf currency_of id.Currency IsRate (vega_parts vs)
    rates = all_of currency_of id.Currency IsRate (vega_parts vs) (each_weaker (IsVega class.IR) (IsPartOf currency_of id.Currency IsRate) rate_own (vega_parts vs) (vega_are p product class.IR fs vs a).each)

    made : currency_parts (vega_parts vs) ≡ currency_buckets p ss
    made = by_currency rate_value (currency_parts (vega_parts vs)) (volatility_currencies ss) (rates.named ∙ vega_ids p product fs vs a ∙ buckets_are product fs) rates.each

    rates_done : IsDone p class.IR ss (vega_parts vs)
    rates_done = record {
      are = subst AreRateParts (sym made) (are_parts p facts weighed ss (rates_range p facts held bounded amounts product sizes));
      margin = ap (rates_margin p) made ∙ whole p ss;
    }

  -- ---- credit

  module _ (c : CreditClass) where
    abbrev points : Bucket → List (Amount CreditPoint)
    points b = points_of c b product fs

    its_credit : HasClass (λ b. (b.terms).id) (λ b. pos_one) points (credit_params p c).buckets
    its_credit = credit_class p facts held bounded amounts product sizes c

    abbrev IsCredit : Whole → Type 0
    IsCredit = IsOwned (λ (b : CreditBucket). (b.terms).id) (λ b. pos_one) points (credit_params p c).buckets its_credit credit_vega_value (IsSizedIn (λ b. pos_one))

    credit_bucket : (b : Bucket) (m : BucketMargin) → Some m ≡ vega_of p (slot.Credit c b) (its (slot.Credit c b)) → IsVegaSized p (slot.Credit c b) (its (slot.Credit c b)) m → IsCredit (b, m)
    credit_bucket b m value sized =
        let listed = credit_bucket_of (credit_params p c).buckets b in
        let there = points_there c b product fs in
        let is : Some m ≡ option_map (λ x. credit_vega_value x (points b)) listed = value ∙ ap (λ (xs : List (Amount CreditPoint)). option_map (λ x. credit_vega_value x xs) listed) there in
        owned (λ (x : CreditBucket). (x.terms).id) (λ x. pos_one) points (credit_params p c).buckets its_credit credit_vega_value (IsSizedIn (λ x. pos_one)) b m is
        (subst (λ (xs : List (Amount CreditPoint)). IsSomeAnd listed (λ (x : CreditBucket). IsSized alone xs m)) there sized)

    credit_own : (part : Slotted) → IsVega (credit_risk_class c) part → IsPartOf listed_of bucket_id_of IsCredit part
    credit_own part v =
        in_credit c (λ s. Some part.1 ≡ vega_of p s (its s) → IsVegaSized p s (its s) part.1 → IsPartOf listed_of bucket_id_of IsCredit (s, part.1))
        (λ b value sized. record { at = b; is = refl; named = refl; own = credit_bucket b part.1 value sized })
        part.0 v.in_class v.value v.sized

    module _ (parts : List Slotted) (are : AreVegas (credit_risk_class c) parts) where
      credits : AreAllOf listed_of bucket_id_of IsCredit parts
      credits = all_of listed_of bucket_id_of IsCredit parts (each_weaker (IsVega (credit_risk_class c)) (IsPartOf listed_of bucket_id_of IsCredit) credit_own parts are.each)

      credits_ascend : IsStrictlySortedBy bucket_id_cmp (listed_ids (listed_parts parts))
      credits_ascend = subst (IsStrictlySortedBy bucket_id_cmp) (sym credits.named) are.ascends

      no_points : (b : Bucket) → has (listed_ids (listed_parts parts)) b ≡ false → select (as_credit_volatility c b) ss ≡ []
      no_points b none = sym (points_there c b product fs) ∙ ap point_nets (are.complete (slot.Credit c b) refl (ap (λ ks. has ks b) (sym credits.named) ∙ none))

      credit_parts : AreListedParts p (its_class.Credit c) parts
      credit_parts = record {
        listed = each_listed (λ (b : CreditBucket). (b.terms).id) (λ b. pos_one) points (credit_params p c).buckets its_credit credit_vega_value (IsSizedIn (λ b. pos_one)) (listed_parts parts) credits.each;
        sized = parts_sized (λ (b : CreditBucket). (b.terms).id) (λ b. pos_one) points (credit_params p c).buckets its_credit credit_vega_value (listed_parts parts) credits.each credits_ascend;
      }

      credit_total : named_margin p (its_class.Credit c) (listed_parts parts) ≡ credit_vega (credit_params p c) c ss
      credit_total =
          let listed = listed_credit (credit_params p c) in
          let gamma = (credit_params p c).gamma in
          margin_of_parts (λ (b : CreditBucket). (b.terms).id) (λ b. pos_one) points (credit_params p c).buckets its_credit credit_vega_value (IsSizedIn (λ b. pos_one)) (margin_over listed gamma) (alike_margin listed gamma)
          (listed_parts parts) credits.each credits_ascend
          ∙ credit_kept (credit_params p c) c ss (has (listed_ids (listed_parts parts))) no_points

  -- ---- equity and commodities

  module _ (c : PricedClass) where
    abbrev names : Bucket → List (Amount NameVolatility)
    names b = name_volatilities c b product fs

    abbrev name_value : PricedBucket → List (Amount NameVolatility) → BucketMargin
    name_value = price_vega_value (priced_params p c).hvr

    its_priced : HasClass (λ b. (b.terms).id) (λ b. b.sigma) names (priced_params p c).buckets
    its_priced = priced_class p facts held bounded amounts product sizes c

    abbrev IsPriced : Whole → Type 0
    IsPriced = IsOwned (λ (b : PricedBucket). (b.terms).id) (λ b. b.sigma) names (priced_params p c).buckets its_priced name_value (IsSizedIn (λ b. b.sigma))

    priced_bucket : (b : Bucket) (m : BucketMargin) → Some m ≡ vega_of p (slot.Priced c b) (its (slot.Priced c b)) → IsVegaSized p (slot.Priced c b) (its (slot.Priced c b)) m → IsPriced (b, m)
    priced_bucket b m value sized =
        let listed = priced_bucket_of (priced_params p c).buckets b in
        let there = names_there c b product fs in
        let is : Some m ≡ option_map (λ x. name_value x (names b)) listed = value ∙ ap (λ (xs : List (Amount NameVolatility)). option_map (λ x. name_value x xs) listed) there in
        owned (λ (x : PricedBucket). (x.terms).id) (λ x. x.sigma) names (priced_params p c).buckets its_priced name_value (IsSizedIn (λ x. x.sigma)) b m is
        (subst (λ (xs : List (Amount NameVolatility)). IsSomeAnd listed (λ (x : PricedBucket). IsSized (λ _. x.sigma) xs m)) there sized)

    priced_own : (part : Slotted) → IsVega (priced_risk_class c) part → IsPartOf listed_of bucket_id_of IsPriced part
    priced_own part v =
        in_priced c (λ s. Some part.1 ≡ vega_of p s (its s) → IsVegaSized p s (its s) part.1 → IsPartOf listed_of bucket_id_of IsPriced (s, part.1))
        (λ b value sized. record { at = b; is = refl; named = refl; own = priced_bucket b part.1 value sized })
        part.0 v.in_class v.value v.sized

    module _ (parts : List Slotted) (are : AreVegas (priced_risk_class c) parts) where
      priceds : AreAllOf listed_of bucket_id_of IsPriced parts
      priceds = all_of listed_of bucket_id_of IsPriced parts (each_weaker (IsVega (priced_risk_class c)) (IsPartOf listed_of bucket_id_of IsPriced) priced_own parts are.each)

      priceds_ascend : IsStrictlySortedBy bucket_id_cmp (listed_ids (listed_parts parts))
      priceds_ascend = subst (IsStrictlySortedBy bucket_id_cmp) (sym priceds.named) are.ascends

      no_names : (b : Bucket) → has (listed_ids (listed_parts parts)) b ≡ false → select (as_price_volatility c b) ss ≡ []
      no_names b none = sym (names_there c b product fs) ∙ ap volatility_nets (are.complete (slot.Priced c b) refl (ap (λ ks. has ks b) (sym priceds.named) ∙ none))

      priced_parts : AreListedParts p (its_class.Priced c) parts
      priced_parts = record {
        listed = each_listed (λ (b : PricedBucket). (b.terms).id) (λ b. b.sigma) names (priced_params p c).buckets its_priced name_value (IsSizedIn (λ b. b.sigma)) (listed_parts parts) priceds.each;
        sized = parts_sized (λ (b : PricedBucket). (b.terms).id) (λ b. b.sigma) names (priced_params p c).buckets its_priced name_value (listed_parts parts) priceds.each priceds_ascend;
      }

      priced_total : named_margin p (its_class.Priced c) (listed_parts parts) ≡ price_vega (priced_params p c) c ss
      priced_total =
          let listed = listed_priced (priced_params p c) in
          let gamma = (priced_params p c).gamma in
          margin_of_parts (λ (b : PricedBucket). (b.terms).id) (λ b. b.sigma) names (priced_params p c).buckets its_priced name_value (IsSizedIn (λ b. b.sigma)) (margin_over listed gamma) (alike_margin listed gamma)
          (listed_parts parts) priceds.each priceds_ascend
          ∙ priced_kept (priced_params p c) c ss (has (listed_ids (listed_parts parts))) no_names

  -- ---- foreign exchange

  abbrev pairs : List (Amount PairVolatility)
  pairs = pair_volatilities product fs

  one_exchange : (m : BucketMargin) → IsExchange p (its slot.Exchange) m → IsMargin m.k × (m.k ≡ fx_vega p ss)
  one_exchange m own =
      let sized = own.sized in (
        record { low = sized.not_negative; high = omega (arith, ints, sized.margin, sized.below) },
        ap (λ (v : BucketMargin). v.k) (own.value ∙ ap (fx_vega_value p) (pairs_there product fs)),
      )

  exchange_own : (part : Slotted) → IsVega class.FX part → IsExchange p (its slot.Exchange) part.1
  exchange_own part v =
      in_exchange (λ s. Some part.1 ≡ vega_of p s (its s) → IsVegaSized p s (its s) part.1 → IsExchange p (its slot.Exchange) part.1)
      (λ value sized. record { value = was_value part.1 (fx_vega_value p (pair_nets (its slot.Exchange))) value; sized = sized })
      part.0 v.in_class v.value v.sized

  exchange_done : (parts : List Slotted) → AreVegas class.FX parts → IsMargin (single_k parts) × (single_k parts ≡ fx_vega p ss)
  exchange_done [] are = (
    record { low = omega (arith, ints); high = omega (arith, ints) },
    sym (pairs_none p ss (sym (pairs_there product fs) ∙ ap pair_nets (are.complete slot.Exchange refl refl))),
  )
  exchange_done (part ∷ parts) are = one_exchange part.1 (exchange_own part are.each.0)

  -- ---- each class

  module _ (weighed : (currency : List ℕ) → AreRatesWeighed p currency) (vs : List PlaceValue) where
    pub done : (k : RiskClass) → AreClassValues p product k (factors_of held) vs → IsDone p k (nets_in product (factors_of held)) (vega_parts vs)
    done class.IR a = rates_done weighed vs a
    done class.CreditQ a = let are = vega_are p product class.CreditQ fs vs a in record { are = credit_parts Qualifying (vega_parts vs) are; margin = credit_total Qualifying (vega_parts vs) are }
    done class.CreditNonQ a = let are = vega_are p product class.CreditNonQ fs vs a in record { are = credit_parts NonQualifying (vega_parts vs) are; margin = credit_total NonQualifying (vega_parts vs) are }
    done class.Equity a = let are = vega_are p product class.Equity fs vs a in record { are = priced_parts Equities (vega_parts vs) are; margin = priced_total Equities (vega_parts vs) are }
    done class.Commodity a = let are = vega_are p product class.Commodity fs vs a in record { are = priced_parts Commodities (vega_parts vs) are; margin = priced_total Commodities (vega_parts vs) are }
    done class.FX a = let both = exchange_done (vega_parts vs) (vega_are p product class.FX fs vs a) in record { are = both.0; margin = both.1 }

-- ---- a book that can be margined

pub vegas_fit : (p : Params) → IsParams p → ((currency : List ℕ) → AreRatesWeighed p currency) → (fs : List (FactorKey × Holding)) (book : IsMarginable p fs) → SizesAreNetted book.held → (product : ProductClass) (k : RiskClass) (vs : List PlaceValue)
    → AreClassValues p product k fs vs → IsDone p k (nets_in product fs) (vega_parts vs)
vegas_fit p facts weighed _ book sizes product k vs all =
    subst (λ f. AreClassValues p product k f vs → IsDone p k (nets_in product f) (vega_parts vs)) (sym book.are)
    (λ a. done p facts book.held book.bounded book.amounts product sizes weighed vs k a) all
