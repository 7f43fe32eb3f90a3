-- A book with fewer rows is in range where the whole book is.
use Rattle.std.proofs.Common.{◌≡◌, ℕ, List, [], ◌∷◌, ◌++◌, map, Bool, true, false, ◌&&◌, ◌||◌, cond, if◌then◌else◌, Option, None, ℤ, pos, negsuc, ◌*ℤ◌, ◌≤ℤ◌, ◌<ℤ◌, unsigned_abs, arith}
use Rattle.std.specs.List.{filter, AllByRecursion}
use Rattle.std.proofs.lemmas.Int.{ints}
use Rattle.std.proofs.lemmas.List.Elements.{recursion_from_All}
use Rattle.simm_params.proofs.MhUnits.Roundings.{up_mono}
use Rattle.simm_params.specs.SimmKinds.declared.kinds.ProductClass.{ProductClass}
use Rattle.simm_params.specs.SimmKinds.declared.kinds.RiskClass.{RiskClass}
use Rattle.simm_params.specs.SimmKinds.declared.kinds.RiskClass.TheVariants as class
use Rattle.simm_params.specs.SimmKinds.declared.kinds.BucketId.{BucketId}
use Rattle.simm_params.specs.SimmKinds.declared.row.CrifRow.{CrifRow}
use Rattle.simm_params.specs.SimmKinds.declared.row.TradeRows.{TradeRows}
use Rattle.simm_params.specs.SimmKinds.Batch.{rows_of}
use Rattle.simm_params.specs.SimmKinds.Factors.{class_of, side_of, bucket_of}
use Rattle.simm_params.specs.SimmKinds.Order.{same_product, same_class, same_bucket_id, bucket_id_cmp}
use Rattle.simm_params.specs.SimmKinds.Pair.{Pair}
use Rattle.simm_params.specs.SimmRules.declared.values.RangeKind.TheVariants as range_kind
use Rattle.simm_params.specs.SimmRules.Params.{CreditBucket, PricedBucket, Params}
use Rattle.simm_params.specs.SimmRules.Sums.{total_by, different}
use Rattle.simm_params.specs.SimmRules.Net.{Sensitivity, sensitivity, sensitivities, in_product}
use Rattle.simm_params.specs.SimmRules.Risks.{Risk, select}
use Rattle.simm_params.specs.SimmRules.declared.classes.CreditClass.{CreditClass}
use Rattle.simm_params.specs.SimmRules.declared.classes.CreditClass.TheVariants.{Qualifying, NonQualifying}
use Rattle.simm_params.specs.SimmRules.declared.classes.PricedClass.{PricedClass}
use Rattle.simm_params.specs.SimmRules.declared.classes.PricedClass.TheVariants.{Equities, Commodities}
use Rattle.simm_params.specs.SimmRules.Rates.{RateIn, as_rate, as_rate_volatility, rate_weight}
use Rattle.simm_params.specs.SimmRules.Credit.{as_credit, as_credit_volatility, credit_params}
use Rattle.simm_params.specs.SimmRules.BaseCorrelation.{as_index}
use Rattle.simm_params.specs.SimmRules.Priced.{as_price, as_price_volatility, priced_params}
use Rattle.simm_params.specs.SimmRules.ForeignExchange.{as_currency, as_pair_volatility, is_high, fx_weight, fx_sigma, fx_threshold}
use Rattle.simm_params.specs.SimmRules.Gross.{size_by, credit_size, credit_volatility_size, price_size, price_volatility_size, delta_size, vega_size}
use Rattle.simm_params.specs.SimmRules.Range.{Sided, is_on, on_side, above, key_count, bucket_keys, range}
use Rattle.simm_params.specs.Facts.{IsParams, IsWeighed}
use Rattle.simm_params.specs.Weighed.{AreRatesWeighed, IsWeighedCredit, IsWeighedPriced, AreWeighedCredit, AreWeighedPriced}
use Rattle.book_range.proofs.Lists.{each_always, each_map, each_weaker}
use Rattle.book_range.proofs.Tests.{IsNone, none_above, IsIn, within, within_none}
use Rattle.book_range.proofs.Buckets.{few_keys}
use Rattle.book_range.proofs.Parts.{IsPart, done, no_part, front_part, length-part, total-part, filter-part, flat_map-part, keys-part}

-- ---- keys

-- the keys of the buckets of a part
buckets-part : (xs ys : List Sensitivity) → IsPart xs ys → AllByRecursion IsNone (bucket_keys ys) → AllByRecursion IsNone (bucket_keys xs)
buckets-part xs ys h none =
    each_map IsNone (λ b. above range_kind.BucketKeys (key_count (filter (λ s. same_bucket_id (bucket_of s.key.factor) b) xs)) (pos 2000)) (different bucket_id_cmp (map (λ s. bucket_of s.key.factor) xs))
    (each_always (λ b. IsNone (above range_kind.BucketKeys (key_count (filter (λ s. same_bucket_id (bucket_of s.key.factor) b) xs)) (pos 2000))) each (different bucket_id_cmp (map (λ s. bucket_of s.key.factor) xs)))
  where
    each : (b : BucketId) → IsNone (above range_kind.BucketKeys (key_count (filter (λ s. same_bucket_id (bucket_of s.key.factor) b) xs)) (pos 2000))
    each b =
        let here = filter (λ (s : Sensitivity). same_bucket_id (bucket_of s.key.factor) b) xs in
        let there = filter (λ (s : Sensitivity). same_bucket_id (bucket_of s.key.factor) b) ys in
        none_above range_kind.BucketKeys (key_count here) (pos 2000)
        (omega (arith, ints, few_keys ys b none, keys-part here there (filter-part (λ (s : Sensitivity). same_bucket_id (bucket_of s.key.factor) b) xs ys h)))

-- ---- weighted sizes

sized_low : (n : ℕ) (z : ℤ) → pos 0 ≤ℤ z → pos 0 ≤ℤ (pos n *ℤ z)
sized_low n (pos m) h = omega (arith, ints)
sized_low n (negsuc m) h = absurd (omega (arith, ints, h))

module _ (xs ys : List Sensitivity) (h : IsPart xs ys) where
  size-part : {A : Type 0} (factor : A → ℤ) → ((x : A) → pos 0 ≤ℤ factor x) → (sort : Risk → Option A) → size_by factor (select sort xs) ≤ℤ size_by factor (select sort ys)
  size-part factor low sort =
      total-part (λ a. pos (unsigned_abs a.amount) *ℤ factor a.of) (λ a. sized_low (unsigned_abs a.amount) (factor a.of) (low a.of)) (select sort xs) (select sort ys)
      (flat_map-part _ xs ys h)

  -- over the buckets of a class
  sizes-part : {B : Type 0} (f g : B → ℤ) (bs : List B) → AllByRecursion (λ b. f b ≤ℤ g b) bs → total_by f bs ≤ℤ total_by g bs
  sizes-part f g [] le = omega (arith, ints)
  sizes-part f g (b ∷ bs) le = omega (arith, ints, le.0, sizes-part f g bs le.1)

-- no weight and no volatility is negative
pub record Weighs (p : Params) : Type 0 where
  pub rate : (r : RateIn) → pos 0 ≤ℤ rate_weight p r
  pub currency : (currency : List ℕ) → pos 0 ≤ℤ fx_weight p currency
  pub pair : (pair : Pair) → pos 0 ≤ℤ fx_sigma p pair
  pub base : pos 0 ≤ℤ p.base_weight
  pub credit : (c : CreditClass) → AllByRecursion IsWeighedCredit (credit_params p c).buckets
  pub priced : (c : PricedClass) → AllByRecursion IsWeighedPriced (priced_params p c).buckets

low_sigma : (p : Params) → IsParams p → (s t : Bool) → pos 0 ≤ℤ (if s && t then p.fx.high_sigma else (if s || t then p.fx.mixed_sigma else p.fx.regular_sigma))
low_sigma p facts true true = ((facts.fx).high_sigma).low
low_sigma p facts true false = ((facts.fx).mixed_sigma).low
low_sigma p facts false true = ((facts.fx).mixed_sigma).low
low_sigma p facts false false = ((facts.fx).regular_sigma).low

pub weighs : (p : Params) → IsParams p → ((currency : List ℕ) → IsWeighed (fx_weight p currency) (fx_threshold p currency)) → ((currency : List ℕ) → AreRatesWeighed p currency)
    → ((c : CreditClass) → AreWeighedCredit (credit_params p c)) → ((c : PricedClass) → AreWeighedPriced (priced_params p c)) → Weighs p
weighs p facts currencies rates credit priced = record {
  rate = λ r. omega (arith, ints, ((rates r.currency).weight r.rate).low);
  currency = λ c. (currencies c).weight_low;
  pair = λ pair. low_sigma p facts (is_high p pair.first) (is_high p pair.second);
  base = omega (arith, ints, (facts.base_weight).low);
  credit = λ c. recursion_from_All IsWeighedCredit (credit_params p c).buckets (credit c).buckets;
  priced = λ c. recursion_from_All IsWeighedPriced (priced_params p c).buckets (priced c).buckets;
}

module _ (p : Params) (w : Weighs p) (xs ys : List Sensitivity) (h : IsPart xs ys) where
  credit-part : (c : CreditClass) → credit_size p c xs ≤ℤ credit_size p c ys
  credit-part c =
      let sized = λ (ss : List Sensitivity) (b : CreditBucket). size_by (λ point. (b.terms).weight) (select (as_credit c (b.terms).id) ss) in
      sizes-part xs ys h (sized xs) (sized ys) (credit_params p c).buckets
      (each_weaker IsWeighedCredit (λ b. sized xs b ≤ℤ sized ys b) (λ b its. size-part xs ys h (λ point. (b.terms).weight) (λ point. ((its.terms).delta).weight_low) (as_credit c (b.terms).id)) (credit_params p c).buckets (w.credit c))

  credit_volatility-part : (c : CreditClass) → credit_volatility_size p c xs ≤ℤ credit_volatility_size p c ys
  credit_volatility-part c =
      let sized = λ (ss : List Sensitivity) (b : CreditBucket). size_by (λ point. pos 10000) (select (as_credit_volatility c (b.terms).id) ss) in
      sizes-part xs ys h (sized xs) (sized ys) (credit_params p c).buckets
      (each_weaker IsWeighedCredit (λ b. sized xs b ≤ℤ sized ys b) (λ b its. size-part xs ys h (λ point. pos 10000) (λ point. omega (arith, ints)) (as_credit_volatility c (b.terms).id)) (credit_params p c).buckets (w.credit c))

  price-part : (c : PricedClass) → price_size p c xs ≤ℤ price_size p c ys
  price-part c =
      let sized = λ (ss : List Sensitivity) (b : PricedBucket). size_by (λ name. (b.terms).weight) (select (as_price c (b.terms).id) ss) in
      sizes-part xs ys h (sized xs) (sized ys) (priced_params p c).buckets
      (each_weaker IsWeighedPriced (λ b. sized xs b ≤ℤ sized ys b) (λ b its. size-part xs ys h (λ name. (b.terms).weight) (λ name. ((its.terms).delta).weight_low) (as_price c (b.terms).id)) (priced_params p c).buckets (w.priced c))

  price_volatility-part : (c : PricedClass) → price_volatility_size p c xs ≤ℤ price_volatility_size p c ys
  price_volatility-part c =
      let sized = λ (ss : List Sensitivity) (b : PricedBucket). size_by (λ name. b.sigma) (select (as_price_volatility c (b.terms).id) ss) in
      sizes-part xs ys h (sized xs) (sized ys) (priced_params p c).buckets
      (each_weaker IsWeighedPriced (λ b. sized xs b ≤ℤ sized ys b) (λ b its. size-part xs ys h (λ name. b.sigma) (λ name. (its.sigma).low) (as_price_volatility c (b.terms).id)) (priced_params p c).buckets (w.priced c))

  delta-part : (c : RiskClass) → delta_size p xs c ≤ℤ delta_size p ys c
  delta-part class.IR = size-part xs ys h (rate_weight p) w.rate as_rate
  delta-part class.CreditQ = omega (arith, ints, credit-part Qualifying, size-part xs ys h (λ (index : List ℕ). p.base_weight) (λ index. w.base) as_index)
  delta-part class.CreditNonQ = credit-part NonQualifying
  delta-part class.Equity = price-part Equities
  delta-part class.Commodity = price-part Commodities
  delta-part class.FX = size-part xs ys h (fx_weight p) w.currency as_currency

  vega-part : (c : RiskClass) → vega_size p xs c ≤ℤ vega_size p ys c
  vega-part class.IR = size-part xs ys h (λ v. pos 10000) (λ v. omega (arith, ints)) as_rate_volatility
  vega-part class.CreditQ = credit_volatility-part Qualifying
  vega-part class.CreditNonQ = credit_volatility-part NonQualifying
  vega-part class.Equity = price_volatility-part Equities
  vega-part class.Commodity = price_volatility-part Commodities
  vega-part class.FX = size-part xs ys h (λ v. fx_sigma p v.pair) (λ v. w.pair v.pair) as_pair_volatility

-- ---- the range

module _ (p : Params) (w : Weighs p) (rows more : List CrifRow) (h : IsPart rows more) where
  abbrev xs : List Sensitivity
  xs = sensitivities rows

  abbrev ys : List Sensitivity
  ys = sensitivities more

  of_rows : IsPart xs ys
  of_rows = flat_map-part sensitivity rows more h

  of_product : (at : ProductClass) → IsPart (in_product at xs) (in_product at ys)
  of_product at = filter-part (λ s. same_product s.key.product at) xs ys of_rows

  of_side : (at : ProductClass) (c : RiskClass) (side : Sided) → IsPart (on_side c side (in_product at xs)) (on_side c side (in_product at ys))
  of_side at c side = filter-part (λ s. same_class (class_of s.key.factor) c && is_on side (side_of s.key.factor)) (in_product at xs) (in_product at ys) (of_product at)

  ten_thousand : pos 0 <ℤ pos 10000
  ten_thousand = omega (arith, ints)

  part_in : IsIn p more → IsIn p rows
  part_in its = record {
    rows = omega (arith, ints, its.rows, length-part rows more h);
    keys = omega (arith, ints, its.keys, keys-part xs ys of_rows);
    buckets = λ at c side. buckets-part (on_side c side (in_product at xs)) (on_side c side (in_product at ys)) (of_side at c side) (its.buckets at c side);
    delta = λ at c. omega (arith, ints, its.delta at c, up_mono (delta_size p (in_product at xs) c) (delta_size p (in_product at ys) c) (pos 10000) ten_thousand (delta-part p w (in_product at xs) (in_product at ys) (of_product at) c));
    vega = λ at c. omega (arith, ints, its.vega at c, up_mono (vega_size p (in_product at xs) c) (vega_size p (in_product at ys) c) (pos 10000) ten_thousand (vega-part p w (in_product at xs) (in_product at ys) (of_product at) c));
  }

-- ---- some trades of a book

kept_rows : (b : Bool) (t : TradeRows) (ts us : List TradeRows) → IsPart (rows_of ts) (rows_of us) → IsPart (rows_of (cond b (t ∷ ts) ts)) (t.rows ++ rows_of us)
kept_rows true t ts us h = front_part t.rows (rows_of ts) (rows_of us) h
kept_rows false t ts us h = no_part t.rows (rows_of ts) (rows_of us) h

rows_part : (test : TradeRows → Bool) (ts : List TradeRows) → IsPart (rows_of (filter test ts)) (rows_of ts)
rows_part test [] = done
rows_part test (t ∷ ts) = kept_rows (test t) t (filter test ts) ts (rows_part test ts)

pub fewer : (p : Params) → Weighs p → (test : TradeRows → Bool) (ts : List TradeRows) → range p (rows_of ts) ≡ None → range p (rows_of (filter test ts)) ≡ None
fewer p w test ts none =
    within_none p (rows_of (filter test ts)) (part_in p w (rows_of (filter test ts)) (rows_of ts) (rows_part test ts) (within p (rows_of ts) none))
