-- What the range of a book says of the volatilities of its classes.
use Rattle.std.proofs.Common.{◌≡◌, ◌^◌, ℕ, ◌*◌, ◌≤◌, List, [], ◌∷◌, map, length, true, ap, ℤ, pos, ◌≤ℤ◌, unsigned_abs, arith}
use Rattle.std.specs.Prelude.{sum_by}
use Rattle.std.specs.List.{list_all, AllByRecursion}
use Rattle.std.proofs.lemmas.Int.{ints}
use Rattle.std.proofs.lemmas.List.{length-map}
use Rattle.std.proofs.lemmas.List.Elements.{recursion_from_All}
use Rattle.class_rates.specs.SimmKinds.declared.kinds.ProductClass.{ProductClass}
use Rattle.class_rates.specs.SimmKinds.declared.kinds.RiskClass.TheVariants as class
use Rattle.class_rates.specs.SimmKinds.declared.bucket.Bucket.{Bucket}
use Rattle.class_rates.specs.SimmKinds.declared.key.FactorKey.{FactorKey}
use Rattle.class_rates.specs.SimmKinds.declared.row.CrifRow.{CrifRow}
use Rattle.class_rates.specs.SimmKinds.Batch.{is_in_range}
use Rattle.class_rates.specs.SimmKinds.Order.{same_product}
use Rattle.class_rates.specs.SimmRules.Params.{Params, CreditBucket, PricedBucket}
use Rattle.class_rates.specs.SimmRules.Sums.{total_by}
use Rattle.class_rates.specs.SimmRules.Net.{Sensitivity, sensitivities, in_product}
use Rattle.class_rates.specs.SimmRules.Risks.{select}
use Rattle.class_rates.specs.SimmRules.declared.classes.CreditClass.{CreditClass}
use Rattle.class_rates.specs.SimmRules.declared.classes.CreditClass.TheVariants.{Qualifying, NonQualifying}
use Rattle.class_rates.specs.SimmRules.declared.classes.PricedClass.{PricedClass}
use Rattle.class_rates.specs.SimmRules.declared.classes.PricedClass.TheVariants.{Equities, Commodities}
use Rattle.class_rates.specs.SimmRules.Credit.{as_credit_volatility, credit_params}
use Rattle.class_rates.specs.SimmRules.ForeignExchange.{PairVolatility, as_pair_volatility, fx_sigma}
use Rattle.class_rates.specs.SimmRules.Gross.{size_by, credit_volatility_size, price_volatility_size}
use Rattle.class_rates.specs.SimmRules.Priced.{as_price_volatility, priced_params}
use Rattle.class_rates.specs.SimmRules.Rates.{VolatilityIn, as_rate_volatility, volatilities_in}
use Rattle.class_rates.specs.SimmParams.ClassRanges.{IsPricedBucket}
use Rattle.class_rates.specs.SimmParams.Facts.{IsParams, IsCreditParams, IsPricedParams}
use Rattle.class_rates.specs.FactorBook.declared.holding.Holding.{Holding}
use Rattle.class_rates.specs.FactorBook.Factors.{factors_of, net_of}
use Rattle.class_rates.specs.FactorBook.Places.{factors_at}
use Rattle.book_range.specs.Bounded.{IsBounded}
use Rattle.class_credit.specs.Points.{as_point}
use Rattle.class_margin.specs.names_delta.Values.{nets_in}
use Rattle.class_rates.proofs.MeasuredBucket.Lists.{each_always, each_weaker}
use Rattle.class_margin.proofs.names_delta.Shrinking.{SizesAreNetted, nets_shrink}
use Rattle.class_margin.proofs.delta.Bounds.{HasClass}
use Rattle.class_margin.proofs.delta.Lists.{filter-length, select-length}
use Rattle.class_priced.specs.Names.{as_name_volatility}
use Rattle.class_margin.specs.volatilities.Places.{currency_place, points_place, names_place, pairs_place, points_of, name_volatilities, pair_volatilities}
use Rattle.class_margin.specs.volatilities.Ranges.{alone, ArePairsInRange}
use Rattle.class_rates.specs.Volatilities.{as_volatility_alone, without_currency}
use Rattle.class_priced.proofs.VolatileNames.{volatilities_there as name_nets_are}
use Rattle.class_exchange.proofs.VolatilePairs.{pairs_there as pair_nets_are}
use Rattle.class_rates.proofs.VolatilityPlaces.{volatility_nets_are}
use Rattle.class_rates.proofs.SimmParams.Sigmas.{sigma_low}
use Rattle.class_credit.proofs.VolatilePoints.{volatilities_there}
use Rattle.class_margin.specs.vega.Combine.{IsRateClass}
use Rattle.class_margin.proofs.vega.Bounded.{nets_bounded}

one_low : {A : Type 0} (x : A) → pos 0 ≤ℤ alone x
one_low x = omega (arith, ints)

module _ (p : Params) (facts : IsParams p) (held : List CrifRow) (bounded : IsBounded p held) (amounts : list_all is_in_range held ≡ true) (product : ProductClass) (sizes : SizesAreNetted held) where
  abbrev fs : List (FactorKey × Holding)
  fs = factors_of held

  abbrev ss : List Sensitivity
  ss = in_product product (sensitivities held)

  pub nets_few : length (nets_in product (factors_of held)) ≤ 20000
  nets_few = omega (arith, filter-length (λ (s : Sensitivity). same_product s.key.product product) (map net_of fs), length-map fs net_of, bounded.keys)

  -- ---- interest rates

  rates_few : (currency : List ℕ) → length (volatilities_in currency (nets_in product fs)) ≤ 2000
  rates_few currency =
      let place = currency_place currency product in
      omega (
        arith,
        ap length (volatility_nets_are currency product fs),
        length-map (volatilities_in currency (nets_in product fs)) without_currency,
        select-length as_volatility_alone (map net_of (factors_at place fs)),
        length-map (factors_at place fs) net_of,
        bounded.each place,
      )

  pub rates_range : IsRateClass (nets_in product fs)
  rates_range = record {
    few = omega (arith, select-length as_rate_volatility (nets_in product fs), nets_few);
    few_each = rates_few;
    small = omega (arith, ints, nets_shrink as_rate_volatility (λ (x : VolatilityIn). alone x) one_low held sizes product, bounded.vega product class.IR);
  }

  -- ---- foreign exchange

  pairs_few : length (pair_volatilities product fs) ≤ 2000
  pairs_few =
      let place = pairs_place product in
      omega (
        arith,
        ap length (pair_nets_are product fs),
        select-length as_pair_volatility (map net_of (factors_at place fs)),
        length-map (factors_at place fs) net_of,
        bounded.each place,
      )

  pub pairs_range : ArePairsInRange p (pair_volatilities product fs)
  pairs_range = record {
    weighed = record {
      few = pairs_few;
      small = omega (arith, ints, nets_shrink as_pair_volatility (λ (v : PairVolatility). fx_sigma p v.pair) (λ v. sigma_low p facts v.pair) held sizes product, bounded.vega product class.FX);
    };
    sizes = nets_bounded as_pair_volatility held sizes product amounts bounded.rows;
  }

  -- ---- the classes of which the file lists buckets

  module _ {X : Type 0} (f g : X → ℤ) where
    totals_le : (xs : List X) → AllByRecursion (λ x. f x ≤ℤ g x) xs → total_by f xs ≤ℤ total_by g xs
    totals_le [] h = omega (arith, ints)
    totals_le (x ∷ xs) h = omega (arith, ints, h.0, totals_le xs h.1)

  credit_of : (class : CreditClass) → IsCreditParams (credit_params p class)
  credit_of Qualifying = facts.credit_q
  credit_of NonQualifying = facts.credit_nq

  priced_of : (class : PricedClass) → IsPricedParams (priced_params p class)
  priced_of Equities = facts.equity
  priced_of Commodities = facts.commodity

  priced_low : (class : PricedClass) → AllByRecursion (λ b. pos 0 ≤ℤ b.sigma) (priced_params p class).buckets
  priced_low class =
      each_weaker IsPricedBucket (λ b. pos 0 ≤ℤ b.sigma) (λ b its. its.sigma.low) (priced_params p class).buckets
      (recursion_from_All IsPricedBucket (priced_params p class).buckets (priced_of class).ranged.buckets)

  credit_small : (class : CreditClass) → credit_volatility_size p class ss ≤ℤ pos (10 ^ 17)
  credit_small Qualifying = bounded.vega product class.CreditQ
  credit_small NonQualifying = bounded.vega product class.CreditNonQ

  priced_small : (class : PricedClass) → price_volatility_size p class ss ≤ℤ pos (10 ^ 17)
  priced_small Equities = bounded.vega product class.Equity
  priced_small Commodities = bounded.vega product class.Commodity

  points_few : (class : CreditClass) (b : Bucket) → length (points_of class b product fs) ≤ 2000
  points_few class b =
      let place = points_place class b product in
      omega (
        arith,
        ap length (volatilities_there class b product fs),
        select-length as_point (map net_of (factors_at place fs)),
        length-map (factors_at place fs) net_of,
        bounded.each place,
      )

  names_few : (class : PricedClass) (b : Bucket) → length (name_volatilities class b product fs) ≤ 2000
  names_few class b =
      let place = names_place class b product in
      omega (
        arith,
        ap length (name_nets_are class b product fs),
        select-length as_name_volatility (map net_of (factors_at place fs)),
        length-map (factors_at place fs) net_of,
        bounded.each place,
      )

  pub names_sizes : (class : PricedClass) (b : Bucket) → sum_by (λ a. unsigned_abs a.amount) (name_volatilities class b product (factors_of held)) ≤ 2 * 10 ^ 20
  names_sizes class b = nets_bounded (as_price_volatility class b) held sizes product amounts bounded.rows

  pub credit_class : (class : CreditClass) → HasClass (λ b. (b.terms).id) (λ b. pos 10000) (λ b. points_of class b product fs) (credit_params p class).buckets
  credit_class class =
      let net : CreditBucket → ℤ = λ b. size_by (λ point. pos 10000) (points_of class (b.terms).id product fs) in
      let gross : CreditBucket → ℤ = λ b. size_by (λ point. pos 10000) (select (as_credit_volatility class (b.terms).id) ss) in
      let each : AllByRecursion (λ b. net b ≤ℤ gross b) (credit_params p class).buckets =
      each_always (λ (b : CreditBucket). net b ≤ℤ gross b) (λ b. nets_shrink (as_credit_volatility class (b.terms).id) (λ point. pos 10000) one_low held sizes product) (credit_params p class).buckets in
      record {
        in_order = (credit_of class).ranged.in_order;
        few = (credit_of class).ranged.few;
        few_each = points_few class;
        low = each_always (λ (b : CreditBucket). pos 0 ≤ℤ pos 10000) (λ b. omega (arith, ints)) (credit_params p class).buckets;
        total = omega (arith, ints, totals_le net gross (credit_params p class).buckets each, credit_small class);
      }

  pub priced_class : (class : PricedClass) → HasClass (λ b. (b.terms).id) (λ b. b.sigma) (λ b. name_volatilities class b product fs) (priced_params p class).buckets
  priced_class class =
      let net : PricedBucket → ℤ = λ b. size_by (λ name. b.sigma) (name_volatilities class (b.terms).id product fs) in
      let gross : PricedBucket → ℤ = λ b. size_by (λ name. b.sigma) (select (as_price_volatility class (b.terms).id) ss) in
      let each : AllByRecursion (λ b. net b ≤ℤ gross b) (priced_params p class).buckets =
      each_weaker (λ (b : PricedBucket). pos 0 ≤ℤ b.sigma) (λ b. net b ≤ℤ gross b) (λ b low. nets_shrink (as_price_volatility class (b.terms).id) (λ name. b.sigma) (λ name. low) held sizes product) (priced_params p class).buckets (priced_low class) in
      record {
        in_order = (priced_of class).ranged.in_order;
        few = (priced_of class).ranged.few;
        few_each = names_few class;
        low = priced_low class;
        total = omega (arith, ints, totals_le net gross (priced_params p class).buckets each, priced_small class);
      }
