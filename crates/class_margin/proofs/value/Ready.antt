-- The factors of each place of a book that can be margined can be measured.
use Rattle.std.proofs.Common.{◌≡◌, ◌≢◌, ℕ, List, [], true, refl, sym, subst, pos, ◌≤ℤ◌}
use Rattle.std.specs.Prelude.{IsSomeAnd}
use Rattle.std.specs.List.{list_all}
use Rattle.class_rates.specs.SimmKinds.declared.kinds.ProductClass.{ProductClass}
use Rattle.class_rates.specs.SimmKinds.declared.bucket.Bucket.{Bucket}
use Rattle.class_rates.specs.SimmKinds.declared.key.FactorKey.{FactorKey}
use Rattle.class_rates.specs.SimmKinds.declared.row.CrifRow.{CrifRow}
use Rattle.class_rates.specs.SimmKinds.Batch.{is_in_range}
use Rattle.class_rates.specs.SimmRules.Admits.{lists}
use Rattle.class_rates.specs.SimmRules.Params.{Params, CreditBucket, PricedBucket}
use Rattle.class_rates.specs.SimmRules.Net.{Sensitivity}
use Rattle.class_rates.specs.SimmRules.declared.classes.CreditClass.{CreditClass}
use Rattle.class_rates.specs.SimmRules.declared.classes.PricedClass.{PricedClass}
use Rattle.class_rates.specs.SimmRules.Rates.{RateIn, rate_weight, rates_in}
use Rattle.class_rates.specs.SimmRules.Credit.{credit_params, listed_credit}
use Rattle.class_rates.specs.SimmRules.Priced.{priced_params, listed_priced}
use Rattle.class_rates.specs.SimmRules.ForeignExchange.{fx_weight}
use Rattle.class_rates.specs.SimmParams.Facts.{IsParams}
use Rattle.class_rates.specs.SimmParams.ListedBuckets.{credit_bucket_of, priced_bucket_of}
use Rattle.class_rates.specs.FactorBook.declared.holding.Holding.{Holding}
use Rattle.class_rates.specs.FactorBook.Factors.{factors_of, IsBook}
use Rattle.class_rates.specs.FactorBook.Places.{factors_at}
use Rattle.class_rates.specs.MeasuredBucket.Runs.{AreRunsInRange}
use Rattle.book_range.specs.Bounded.{IsBounded, IsMarginable}
use Rattle.class_rates.specs.Places.{rates_place, volatilities_place}
use Rattle.class_rates.specs.Rates.{rates_among, AreRates}
use Rattle.class_rates.specs.Volatilities.{volatilities_among, AreVolatilities}
use Rattle.class_rates.proofs.RatePlaces.{rates_there, rates_ascend}
use Rattle.class_rates.proofs.VolatilityPlaces.{volatilities_there as rate_volatilities_there, volatilities_ascend as rate_volatilities_ascend}
use Rattle.class_credit.specs.Base.{base_place, index_nets, AreIndices}
use Rattle.class_credit.specs.Points.{points_place, points_in, point_nets, ArePoints, volatilities_place as point_volatilities_place, volatilities_in as point_volatilities}
use Rattle.class_credit.proofs.CreditPoints.{points_there, points_ascend}
use Rattle.class_credit.proofs.Indices.{indices_there, indices_ascend}
use Rattle.class_credit.proofs.VolatilePoints.{volatilities_there as point_volatilities_there, volatilities_ascend as point_volatilities_ascend}
use Rattle.class_priced.specs.Names.{names_place, names_in, name_nets, AreNames, volatilities_place as name_volatilities_place, volatilities_in as name_volatilities, volatility_nets, AreNameVolatilities}
use Rattle.class_priced.proofs.PricedNames.{names_there, names_ascend}
use Rattle.class_priced.proofs.VolatileNames.{volatilities_there as name_volatilities_there, volatilities_ascend as name_volatilities_ascend}
use Rattle.class_exchange.specs.Currencies.{currency_place, risky_nets, AreRisky}
use Rattle.class_exchange.specs.Pairs.{pairs_place, pair_nets, ArePairs}
use Rattle.class_exchange.proofs.RiskyCurrencies.{currencies_there, currencies_ascend}
use Rattle.class_exchange.proofs.VolatilePairs.{pairs_there, volatilities_ascend as pair_volatilities_ascend}
use Rattle.class_rates.specs.FactorBook.declared.slot.Slot.{Slot}
use Rattle.class_rates.specs.FactorBook.declared.slot.Slot.TheVariants as slot
use Rattle.class_rates.specs.FactorBook.declared.place.Place.{Place}
use Rattle.class_rates.specs.FactorBook.declared.place.Stand.{Stand}
use Rattle.class_rates.specs.FactorBook.declared.place.Stand.TheVariants as stand
use Rattle.class_margin.specs.value.Place.{IsReady}
use Rattle.class_margin.specs.value.Delta.{IsDeltaReady}
use Rattle.class_margin.specs.value.Volatile.{IsVolatileReady}
use Rattle.class_margin.specs.names_delta.Values.{nets_in, IsInRange}
use Rattle.class_margin.specs.rates_delta.Range.{IsBucket, IsClass}
use Rattle.class_margin.specs.volatilities.Ranges.{alone}
use Rattle.class_margin.proofs.names_delta.Shrinking.{SizesAreNetted}
use Rattle.class_margin.proofs.delta.Bounds.{indices_range, currencies_range, rates_range, credit_class as delta_credit, priced_class as delta_priced}
use Rattle.class_margin.proofs.value.Admitted.{held_there, IsHeld, StandsHeld}
use Rattle.class_margin.proofs.volatility.Bounds.{pairs_range}
use Rattle.class_margin.proofs.delta.Owned.{ready}
use Rattle.class_margin.proofs.volatility.Parts.{some_and}
use Rattle.class_margin.proofs.volatility.Ready.{each_range, credit_found, priced_found}

-- what is known of the parameters' weights: none is negative, and the rates of each currency of a class in range are in range
pub record AreWeights (p : Params) : Type 0 where
  pub currencies : (currency : List ℕ) → pos 0 ≤ℤ fx_weight p currency
  pub rates : (rate : RateIn) → pos 0 ≤ℤ rate_weight p rate
  pub each : (ss : List Sensitivity) → IsClass p ss → (currency : List ℕ) → IsBucket p (rates_in currency ss)

module _ (p : Params) (facts : IsParams p) (weights : AreWeights p) (held : List CrifRow) (bounded : IsBounded p held) (amounts : list_all is_in_range held ≡ true) (product : ProductClass) (sizes : SizesAreNetted held) where
  abbrev fs : List (FactorKey × Holding)
  fs = factors_of held

  book : IsBook (factors_of held)
  book = record { held = held; are = refl; amounts = amounts }

  -- ---- delta

  rates_ready : (currency : List ℕ) → AreRates p (rates_among currency (factors_at (rates_place currency product) fs))
  rates_ready currency =
      subst (AreRates p) (sym (rates_there currency product fs))
      (record { ascends = rates_ascend currency product fs book; range = weights.each (nets_in product fs) (rates_range p facts held bounded product sizes weights.rates) currency })

  credit_ready : (c : CreditClass) (b : Bucket) → lists (listed_credit (credit_params p c)) b ≡ true → IsSomeAnd (credit_bucket_of (credit_params p c).buckets b) (λ x. ArePoints (x.terms).weight (point_nets (factors_at (points_place c b product) fs)))
  credit_ready c b h =
      some_and (λ (x : CreditBucket). IsInRange (λ _. (x.terms).weight) (points_in c b product fs)) (λ x. ArePoints (x.terms).weight (point_nets (factors_at (points_place c b product) fs)))
      (λ x r. subst (ArePoints (x.terms).weight) (sym (points_there c b product fs)) (record { ascends = points_ascend c b product fs book; range = r })) (credit_bucket_of (credit_params p c).buckets b)
      (ready (λ (x : CreditBucket). (x.terms).id) (λ x. (x.terms).weight) (λ a. points_in c a product fs) (credit_params p c).buckets (delta_credit p facts held bounded product sizes c) b h)

  priced_ready : (c : PricedClass) (b : Bucket) → lists (listed_priced (priced_params p c)) b ≡ true → IsSomeAnd (priced_bucket_of (priced_params p c).buckets b) (λ x. AreNames (x.terms).weight (name_nets (factors_at (names_place c b product) fs)))
  priced_ready c b h =
      some_and (λ (x : PricedBucket). IsInRange (λ _. (x.terms).weight) (names_in c b product fs)) (λ x. AreNames (x.terms).weight (name_nets (factors_at (names_place c b product) fs)))
      (λ x r. subst (AreNames (x.terms).weight) (sym (names_there c b product fs)) (record { ascends = names_ascend c b product fs book; range = r })) (priced_bucket_of (priced_params p c).buckets b)
      (ready (λ (x : PricedBucket). (x.terms).id) (λ x. (x.terms).weight) (λ a. names_in c a product fs) (priced_params p c).buckets (delta_priced p facts held bounded product sizes c) b h)

  exchange_ready : AreRisky p (risky_nets p (factors_at (currency_place product) fs))
  exchange_ready =
      subst (AreRisky p) (sym (currencies_there p product fs))
      (record { ascends = currencies_ascend p product fs book; range = currencies_range p facts held bounded product sizes weights.currencies })

  indices_ready : AreIndices p (index_nets (factors_at (base_place product) fs))
  indices_ready =
      subst (AreIndices p) (sym (indices_there product fs))
      (record { ascends = indices_ascend product fs book; range = indices_range p facts held bounded product sizes })

  delta_ready : (s : Slot) → IsHeld p s → IsDeltaReady p s (factors_at (record { product = product; stand = stand.Delta s }) fs)
  delta_ready (slot.Rates currency) h = rates_ready currency
  delta_ready (slot.Credit c b) h = credit_ready c b h
  delta_ready (slot.Priced c b) h = priced_ready c b h
  delta_ready slot.Exchange h = exchange_ready

  -- ---- vega and curvature

  volatile_rates : (currency : List ℕ) → AreVolatilities (volatilities_among currency (factors_at (volatilities_place currency product) fs))
  volatile_rates currency =
      subst AreVolatilities (sym (rate_volatilities_there currency product fs))
      (record { ascends = rate_volatilities_ascend currency product fs book; range = each_range p facts held bounded amounts product sizes currency })

  volatile_credit : (c : CreditClass) (b : Bucket) → lists (listed_credit (credit_params p c)) b ≡ true → IsSomeAnd (credit_bucket_of (credit_params p c).buckets b) (λ x. ArePoints (pos 10000) (point_nets (factors_at (point_volatilities_place c b product) fs)))
  volatile_credit c b h =
      some_and (λ (x : CreditBucket). IsInRange alone (point_volatilities c b product fs)) (λ x. ArePoints (pos 10000) (point_nets (factors_at (point_volatilities_place c b product) fs)))
      (λ x r. subst (ArePoints (pos 10000)) (sym (point_volatilities_there c b product fs)) (record { ascends = point_volatilities_ascend c b product fs book; range = r })) (credit_bucket_of (credit_params p c).buckets b)
      (credit_found p facts held bounded amounts product sizes c b h)

  volatile_priced : (c : PricedClass) (b : Bucket) → lists (listed_priced (priced_params p c)) b ≡ true → IsSomeAnd (priced_bucket_of (priced_params p c).buckets b) (λ x. AreNameVolatilities x.sigma (volatility_nets (factors_at (name_volatilities_place c b product) fs)))
  volatile_priced c b h =
      some_and (λ (x : PricedBucket). AreRunsInRange (λ _. x.sigma) (name_volatilities c b product fs)) (λ x. AreNameVolatilities x.sigma (volatility_nets (factors_at (name_volatilities_place c b product) fs)))
      (λ x r. subst (AreNameVolatilities x.sigma) (sym (name_volatilities_there c b product fs)) (record { ascends = name_volatilities_ascend c b product fs book; range = r })) (priced_bucket_of (priced_params p c).buckets b)
      (priced_found p facts held bounded amounts product sizes c b h)

  volatile_exchange : ArePairs p (pair_nets (factors_at (pairs_place product) fs))
  volatile_exchange =
      subst (ArePairs p) (sym (pairs_there product fs))
      (record { ascends = pair_volatilities_ascend product fs book; range = pairs_range p facts held bounded amounts product sizes })

  volatile_ready : (s : Slot) → IsHeld p s → IsVolatileReady p s (factors_at (record { product = product; stand = stand.Volatility s }) fs)
  volatile_ready (slot.Rates currency) h = volatile_rates currency
  volatile_ready (slot.Credit c b) h = volatile_credit c b h
  volatile_ready (slot.Priced c b) h = volatile_priced c b h
  volatile_ready slot.Exchange h = volatile_exchange

  ready_at : (s : Stand) → StandsHeld p s → IsReady p s (factors_at (record { product = product; stand = s }) fs)
  ready_at (stand.Delta s) h = delta_ready s h
  ready_at stand.BaseCorrelation h = indices_ready
  ready_at (stand.Volatility s) h = volatile_ready s h

-- ---- each place that has a factor

pub measurable : (p : Params) → IsParams p → AreWeights p → (fs : List (FactorKey × Holding)) (its : IsMarginable p fs) → SizesAreNetted its.held → (place : Place) → factors_at place fs ≢ [] → IsReady p place.stand (factors_at place fs)
measurable p facts weights fs its sizes place some =
    subst (λ f. IsReady p place.stand (factors_at place f)) (sym its.are)
    (ready_at p facts weights its.held its.bounded its.amounts place.product sizes place.stand (held_there p place fs its some))
