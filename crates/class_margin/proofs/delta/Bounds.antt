-- What the range of a book says of the buckets of its classes.
use Rattle.std.proofs.Common.{◌≡◌, ◌^◌, ℕ, ◌+◌, ◌*◌, ◌≤◌, List, [], ◌∷◌, map, length, Some, not, refl, sym, ap, ◌∙◌, subst, ℤ, pos, negsuc, ◌+ℤ◌, ◌*ℤ◌, ◌≤ℤ◌, unsigned_abs, arith}
use Rattle.std.specs.List.{AllByRecursion}
use Rattle.std.proofs.lemmas.Int.{ints, unsigned_abs-mul}
use Rattle.std.proofs.lemmas.List.{length-map}
use Rattle.std.proofs.lemmas.List.Elements.{recursion_from_All}
use Rattle.class_rates.specs.MhUnits.Rounding.{away}
use Rattle.class_rates.proofs.MhUnits.Integers.{add-mul_ℤ}
use Rattle.class_rates.specs.SimmKinds.declared.kinds.ProductClass.{ProductClass}
use Rattle.class_rates.specs.SimmKinds.declared.kinds.RiskClass.TheVariants as class
use Rattle.class_rates.specs.SimmKinds.declared.bucket.Bucket.{Bucket}
use Rattle.class_rates.specs.SimmKinds.declared.key.FactorKey.{FactorKey}
use Rattle.class_rates.specs.SimmKinds.declared.row.CrifRow.{CrifRow}
use Rattle.class_rates.specs.SimmKinds.Order.{same_product}
use Rattle.class_rates.specs.SimmRules.declared.values.BucketMargin.{BucketMargin}
use Rattle.class_rates.specs.SimmRules.Params.{Params, CreditBucket, PricedBucket}
use Rattle.class_rates.specs.SimmRules.Sums.{total_by}
use Rattle.class_rates.specs.SimmRules.Net.{Sensitivity, sensitivities, in_product}
use Rattle.class_rates.specs.SimmRules.Risks.{Amount, select}
use Rattle.class_rates.specs.SimmRules.declared.classes.CreditClass.{CreditClass}
use Rattle.class_rates.specs.SimmRules.declared.classes.CreditClass.TheVariants.{Qualifying, NonQualifying}
use Rattle.class_rates.specs.SimmRules.declared.classes.PricedClass.{PricedClass}
use Rattle.class_rates.specs.SimmRules.declared.classes.PricedClass.TheVariants.{Equities, Commodities}
use Rattle.class_rates.specs.SimmRules.BaseCorrelation.{as_index, weighted_index, base_value}
use Rattle.class_rates.specs.SimmRules.Bucket.{Weighted}
use Rattle.class_rates.specs.SimmRules.Credit.{as_credit, credit_params}
use Rattle.class_rates.specs.SimmRules.ForeignExchange.{as_currency, is_own_currency, fx_weight}
use Rattle.class_rates.specs.SimmRules.Gross.{size_by, credit_size, price_size}
use Rattle.class_rates.specs.SimmRules.Priced.{as_price, priced_params}
use Rattle.class_rates.specs.SimmRules.Rates.{RateIn, as_rate, rate_weight, rates_in}
use Rattle.class_rates.specs.SimmParams.Buckets.{AreInOrder}
use Rattle.class_rates.specs.SimmParams.ClassRanges.{IsCreditBucket, IsPricedBucket}
use Rattle.class_rates.specs.SimmParams.Facts.{IsParams, IsCreditParams, IsPricedParams}
use Rattle.class_rates.specs.FactorBook.declared.holding.Holding.{Holding}
use Rattle.class_rates.specs.FactorBook.Factors.{factors_of, net_of}
use Rattle.book_range.specs.Bounded.{IsBounded}
use Rattle.class_margin.specs.rates_delta.Range.{IsClass}
use Rattle.class_rates.specs.Places.{rates_place}
use Rattle.class_credit.specs.Base.{base_place, indices_of, index_weight}
use Rattle.class_exchange.specs.Currencies.{currency_place, currencies_in}
use Rattle.class_priced.specs.Names.{names_place, names_in}
use Rattle.class_credit.specs.Points.{points_place, points_in}
use Rattle.class_margin.specs.names_delta.Values.{nets_in, IsInRange, IsSized}
use Rattle.class_rates.proofs.MeasuredBucket.Lists.{each_weaker}
use Rattle.class_rates.proofs.MeasuredBucket.Sizes.{away_size_close}
use Rattle.class_margin.proofs.names_delta.Shrinking.{SizesAreNetted, nets_shrink, filter_shrinks}
use Rattle.class_margin.proofs.delta.Lists.{filter-length, select-length}
use Rattle.class_margin.proofs.delta.Counts as counts

-- ---- sums that are not negative

times_low : (a : ℕ) (w : ℤ) → pos 0 ≤ℤ w → pos 0 ≤ℤ (pos a *ℤ w)
times_low a (pos w) low = omega (arith, ints)
times_low a (negsuc w) low = absurd low.le

pub size_low : {A : Type 0} (weight : A → ℤ) → ((x : A) → pos 0 ≤ℤ weight x) → (amounts : List (Amount A)) → pos 0 ≤ℤ size_by weight amounts
size_low weight low [] = omega (arith, ints)
size_low weight low (a ∷ amounts) = omega (arith, ints, times_low (unsigned_abs a.amount) (weight a.of) (low a.of), size_low weight low amounts)

pub total_low : {X : Type 0} (f : X → ℤ) (xs : List X) → AllByRecursion (λ x. pos 0 ≤ℤ f x) xs → pos 0 ≤ℤ total_by f xs
total_low f [] h = omega (arith, ints)
total_low f (x ∷ xs) h = omega (arith, ints, h.0, total_low f xs h.1)

-- the sizes of values
pub gross_low : {A : Type 0} (fs : List (Weighted A)) → pos 0 ≤ℤ total_by (λ k. pos (unsigned_abs k.w)) fs
gross_low [] = omega (arith, ints)
gross_low (f ∷ fs) = omega (arith, ints, gross_low fs)

-- ---- the margin of a bucket in range

pub value_most : {A : Type 0} (weight : A → ℤ) (amounts : List (Amount A)) (value : BucketMargin) → IsInRange weight amounts → IsSized weight amounts value → pos 0 ≤ℤ value.gross → value.k ≤ℤ pos (4 * 10 ^ 15)
value_most weight amounts value range its low = omega (arith, ints, its.gross, its.margin, its.not_negative, range.small, range.few)

-- base correlation has no concentration: each weighted value is less than a cent off
index_close : (w : ℕ) (x : ℤ) → unsigned_abs (away (pos w *ℤ x) (pos 10000)) * 10000 ≤ unsigned_abs x * w + 10000
index_close w x = omega (arith, away_size_close (pos w *ℤ x) 10000 (omega arith), unsigned_abs-mul (pos w) x)

indices_gross : (w : ℤ) (amounts : List (Amount (List ℕ))) → pos 0 ≤ℤ w → (total_by (λ a. pos (unsigned_abs (away (w *ℤ a.amount) (pos 10000)))) amounts *ℤ pos 10000) ≤ℤ (size_by (λ index. w) amounts +ℤ pos (length amounts * 10000))
indices_gross w [] low = omega (arith, ints)
indices_gross (pos w) (a ∷ amounts) low =
    let rest : ℤ = total_by (λ b. pos (unsigned_abs (away (pos w *ℤ b.amount) (pos 10000)))) amounts in
    omega (arith, ints, index_close w a.amount, indices_gross (pos w) amounts low, add-mul_ℤ (pos (unsigned_abs (away (pos w *ℤ a.amount) (pos 10000)))) rest (pos 10000))
indices_gross (negsuc w) (a ∷ amounts) low = absurd low.le

weighed_gross : (p : Params) (amounts : List (Amount (List ℕ))) → total_by (λ k. pos (unsigned_abs k.w)) (map (weighted_index p) amounts) ≡ total_by (λ a. pos (unsigned_abs (away (p.base_weight *ℤ a.amount) (pos 10000)))) amounts
weighed_gross p [] = refl
weighed_gross p (a ∷ amounts) = ap (λ z. pos (unsigned_abs (away (p.base_weight *ℤ a.amount) (pos 10000))) +ℤ z) (weighed_gross p amounts)

pub base_most : (p : Params) (amounts : List (Amount (List ℕ))) (value : BucketMargin) → pos 0 ≤ℤ p.base_weight → IsInRange (index_weight p) amounts → IsSized (index_weight p) amounts value → value ≡ base_value p amounts → value.k ≤ℤ pos (10 ^ 14)
base_most p amounts value low range its is =
    let gross : value.gross ≡ total_by (λ a. pos (unsigned_abs (away (p.base_weight *ℤ a.amount) (pos 10000)))) amounts = ap (λ (v : BucketMargin). v.gross) is ∙ weighed_gross p amounts in
    let not_negative : pos 0 ≤ℤ value.gross = subst (λ (v : BucketMargin). pos 0 ≤ℤ v.gross) (sym is) (gross_low (map (weighted_index p) amounts)) in
    let scaled : value.gross *ℤ pos 10000 ≡ total_by (λ a. pos (unsigned_abs (away (p.base_weight *ℤ a.amount) (pos 10000)))) amounts *ℤ pos 10000 = ap (λ z. z *ℤ pos 10000) gross in
    omega (arith, ints, scaled, not_negative, indices_gross p.base_weight amounts low, its.margin, its.not_negative, range.small, range.few)

-- ---- a class of which the file lists buckets

-- its buckets in order, and their amounts in range
pub record HasClass {X A : Type 0} (id : X → Bucket) (weight : X → ℤ) (amounts : Bucket → List (Amount A)) (xs : List X) : Type 0 where
  pub in_order : AreInOrder (map id xs)
  pub few : length xs ≤ 65
  pub few_each : (b : Bucket) → length (amounts b) ≤ 2000
  pub low : AllByRecursion (λ x. pos 0 ≤ℤ weight x) xs
  pub total : total_by (λ x. size_by (λ _. weight x) (amounts (id x))) xs ≤ℤ pos (10 ^ 17)

-- ---- the classes that have one bucket

module _ (p : Params) (facts : IsParams p) (held : List CrifRow) (bounded : IsBounded p held) (product : ProductClass) (sizes : SizesAreNetted held) where
  abbrev fs : List (FactorKey × Holding)
  fs = factors_of held

  abbrev ss : List Sensitivity
  ss = in_product product (sensitivities held)

  weights_low : (class : CreditClass) → IsCreditParams (credit_params p class) → AllByRecursion (λ b. pos 0 ≤ℤ (b.terms).weight) (credit_params p class).buckets
  weights_low class its =
      each_weaker IsCreditBucket (λ b. pos 0 ≤ℤ (b.terms).weight) (λ b own. omega (arith, ints, own.terms.weight.low)) (credit_params p class).buckets
      (recursion_from_All IsCreditBucket (credit_params p class).buckets its.ranged.buckets)

  pub indices_range : IsInRange (index_weight p) (indices_of product fs)
  indices_range =
      let class_low = total_low (λ b. size_by (λ point. (b.terms).weight) (select (as_credit Qualifying (b.terms).id) ss)) p.credit_q.buckets (each_low p.credit_q.buckets (weights_low Qualifying facts.credit_q)) in
      record {
        few = omega (arith, counts.indices_few product fs, bounded.each (base_place product));
        small = omega (arith, ints, nets_shrink as_index (index_weight p) (λ x. omega (arith, ints, facts.base_weight.low)) held sizes product, bounded.delta product class.CreditQ, class_low);
      }
    where
      each_low : (bs : List CreditBucket) → AllByRecursion (λ b. pos 0 ≤ℤ (b.terms).weight) bs → AllByRecursion (λ b. pos 0 ≤ℤ size_by (λ point. (b.terms).weight) (select (as_credit Qualifying (b.terms).id) ss)) bs
      each_low [] h = tt
      each_low (b ∷ bs) h = (size_low (λ point. (b.terms).weight) (λ point. h.0) (select (as_credit Qualifying (b.terms).id) ss), each_low bs h.1)

  currencies_few : length (currencies_in p product fs) ≤ 2000
  currencies_few = omega (arith, counts.currencies_few product fs p, bounded.each (currency_place product))

  pub currencies_range : ((currency : List ℕ) → pos 0 ≤ℤ fx_weight p currency) → IsInRange (fx_weight p) (currencies_in p product fs)
  currencies_range low = record {
    few = currencies_few;
    small = omega (
      arith,
      ints,
      nets_shrink as_currency (fx_weight p) low held sizes product,
      filter_shrinks (fx_weight p) low (λ (a : Amount (List ℕ)). not (is_own_currency p a.of)) (select as_currency (nets_in product fs)),
      bounded.delta product class.FX,
    );
  }

  -- ---- interest rates

  rates_few : (currency : List ℕ) → length (rates_in currency (nets_in product fs)) ≤ 2000
  rates_few currency = omega (arith, counts.rates_few product fs currency, bounded.each (rates_place currency product))

  pub rates_range : ((rate : RateIn) → pos 0 ≤ℤ rate_weight p rate) → IsClass p (nets_in product fs)
  rates_range low = record {
    few = omega (arith, select-length as_rate (nets_in product fs), filter-length (λ (s : Sensitivity). same_product s.key.product product) (map net_of fs), length-map fs net_of, bounded.keys);
    few_each = rates_few;
    small = omega (arith, ints, nets_shrink as_rate (rate_weight p) low held sizes product, bounded.delta product class.IR);
  }

  -- ---- the classes of which the file lists buckets

  module _ {X : Type 0} (f g : X → ℤ) where
    totals_le : (xs : List X) → AllByRecursion (λ x. f x ≤ℤ g x) xs → total_by f xs ≤ℤ total_by g xs
    totals_le [] h = omega (arith, ints)
    totals_le (x ∷ xs) h = omega (arith, ints, h.0, totals_le xs h.1)

  credit_of : (class : CreditClass) → IsCreditParams (credit_params p class)
  credit_of Qualifying = facts.credit_q
  credit_of NonQualifying = facts.credit_nq

  priced_of : (class : PricedClass) → IsPricedParams (priced_params p class)
  priced_of Equities = facts.equity
  priced_of Commodities = facts.commodity

  credit_low : (class : CreditClass) → AllByRecursion (λ b. pos 0 ≤ℤ (b.terms).weight) (credit_params p class).buckets
  credit_low class = weights_low class (credit_of class)

  priced_low : (class : PricedClass) → AllByRecursion (λ b. pos 0 ≤ℤ (b.terms).weight) (priced_params p class).buckets
  priced_low class =
      each_weaker IsPricedBucket (λ b. pos 0 ≤ℤ (b.terms).weight) (λ b its. omega (arith, ints, its.terms.weight.low)) (priced_params p class).buckets
      (recursion_from_All IsPricedBucket (priced_params p class).buckets (priced_of class).ranged.buckets)

  credit_small : (class : CreditClass) → credit_size p class ss ≤ℤ pos (10 ^ 17)
  credit_small Qualifying = omega (arith, ints, bounded.delta product class.CreditQ, size_low (λ (index : List ℕ). p.base_weight) (λ index. omega (arith, ints, facts.base_weight.low)) (select as_index ss))
  credit_small NonQualifying = bounded.delta product class.CreditNonQ

  priced_small : (class : PricedClass) → price_size p class ss ≤ℤ pos (10 ^ 17)
  priced_small Equities = bounded.delta product class.Equity
  priced_small Commodities = bounded.delta product class.Commodity

  points_few : (class : CreditClass) (b : Bucket) → length (points_in class b product fs) ≤ 2000
  points_few class b = omega (arith, counts.points_few product fs class b, bounded.each (points_place class b product))

  names_few : (class : PricedClass) (b : Bucket) → length (names_in class b product fs) ≤ 2000
  names_few class b = omega (arith, counts.names_few product fs class b, bounded.each (names_place class b product))

  pub credit_class : (class : CreditClass) → HasClass (λ b. (b.terms).id) (λ b. (b.terms).weight) (λ b. points_in class b product fs) (credit_params p class).buckets
  credit_class class =
      let net : CreditBucket → ℤ = λ b. size_by (λ point. (b.terms).weight) (points_in class (b.terms).id product fs) in
      let gross : CreditBucket → ℤ = λ b. size_by (λ point. (b.terms).weight) (select (as_credit class (b.terms).id) ss) in
      let each : AllByRecursion (λ b. net b ≤ℤ gross b) (credit_params p class).buckets =
      each_weaker (λ (b : CreditBucket). pos 0 ≤ℤ (b.terms).weight) (λ b. net b ≤ℤ gross b) (λ b low. nets_shrink (as_credit class (b.terms).id) (λ point. (b.terms).weight) (λ point. low) held sizes product) (credit_params p class).buckets (credit_low class) in
      record {
        in_order = (credit_of class).ranged.in_order;
        few = (credit_of class).ranged.few;
        few_each = points_few class;
        low = credit_low class;
        total = omega (arith, ints, totals_le net gross (credit_params p class).buckets each, credit_small class);
      }

  pub priced_class : (class : PricedClass) → HasClass (λ b. (b.terms).id) (λ b. (b.terms).weight) (λ b. names_in class b product fs) (priced_params p class).buckets
  priced_class class =
      let net : PricedBucket → ℤ = λ b. size_by (λ name. (b.terms).weight) (names_in class (b.terms).id product fs) in
      let gross : PricedBucket → ℤ = λ b. size_by (λ name. (b.terms).weight) (select (as_price class (b.terms).id) ss) in
      let each : AllByRecursion (λ b. net b ≤ℤ gross b) (priced_params p class).buckets =
      each_weaker (λ (b : PricedBucket). pos 0 ≤ℤ (b.terms).weight) (λ b. net b ≤ℤ gross b) (λ b low. nets_shrink (as_price class (b.terms).id) (λ name. (b.terms).weight) (λ name. low) held sizes product) (priced_params p class).buckets (priced_low class) in
      record {
        in_order = (priced_of class).ranged.in_order;
        few = (priced_of class).ranged.few;
        few_each = names_few class;
        low = priced_low class;
        total = omega (arith, ints, totals_le net gross (priced_params p class).buckets each, priced_small class);
      }

pub was_value : (m n : BucketMargin) → Some m ≡ Some n → m ≡ n
was_value m n e = cc
