-- The volatilities of the pairs of currencies of a product class among the factors of a book: where they stand, which are in range, and
-- what those of a pair come to over its tenors.
-- (ISDA SIMM methodology, foreign exchange risk: vega and curvature.)
use Rattle.std.specs.Prelude.{◌*◌, ◌^◌, ◌≤◌, List, map, ℤ, ◌*ℤ◌, unsigned_abs}
use Rattle.std.specs.declared.cmp.Ordering.{Ordering}
use Rattle.std.specs.Ordering.{nat_cmp, ordering_then}
use Rattle.std.specs.List.Sorted.{IsStrictlySortedBy}
use Rattle.measured_bucket.specs.SimmKinds.declared.currency_pair.CurrencyPair.{CurrencyPair}
use Rattle.measured_bucket.specs.SimmKinds.declared.kinds.ProductClass.{ProductClass}
use Rattle.measured_bucket.specs.SimmKinds.declared.key.FactorKey.{FactorKey}
use Rattle.measured_bucket.specs.SimmKinds.Order.{pair_cmp, tenor_place}
use Rattle.measured_bucket.specs.SimmKinds.Pair.{Pair}
use Rattle.measured_bucket.specs.SimmRules.Params.{Params}
use Rattle.measured_bucket.specs.SimmRules.Sums.{total_by}
use Rattle.measured_bucket.specs.SimmRules.Risks.{Amount, select}
use Rattle.measured_bucket.specs.SimmRules.Concentration.{cr}
use Rattle.measured_bucket.specs.SimmRules.Bucket.{Weighted, weighted_value}
use Rattle.measured_bucket.specs.SimmRules.Curvature.{curved}
use Rattle.measured_bucket.specs.SimmRules.ForeignExchange.{PairVolatility, as_pair_volatility, fx_sigma, fx_vega_threshold, pairs_of, pair_tenors}
use Rattle.measured_bucket.specs.FactorBook.declared.place.Place.{Place}
use Rattle.measured_bucket.specs.FactorBook.declared.place.Stand.TheVariants as stand
use Rattle.measured_bucket.specs.FactorBook.declared.slot.Slot.TheVariants as slot
use Rattle.measured_bucket.specs.FactorBook.declared.holding.Holding.{Holding}
use Rattle.measured_bucket.specs.FactorBook.Factors.{net_of}
use Rattle.measured_bucket.specs.declared.runs.TenorNet.{TenorNet}
use Rattle.measured_bucket.specs.declared.runs.TenorSum.{TenorSum}
use Rattle.measured_bucket.specs.declared.tenor_scale.TenorScale.{TenorScale}
use Rattle.measured_bucket.specs.Risk.{risk_of}
use Rattle.measured_bucket.specs.Runs.{sum_view, AreRunsInRange}
use Rattle.measured_bucket.specs.Scale.{scale_by}
use Rattle.measured_bucket.specs.Values.{nets_in, IsSmall}
use Rattle.measured_bucket.specs.Vega.{vega_risk}
use Rattle.class_exchange.specs.declared.pairs.PairVolatility.{PairVolatility as HeldVolatility}

-- where they stand: there is one bucket
abbrev pub pairs_place : ProductClass → Place
pairs_place product = record { product = product; stand = stand.Volatility slot.Exchange }

abbrev pub pair_volatilities : ProductClass → List (FactorKey × Holding) → List (Amount PairVolatility)
pair_volatilities product factors = select as_pair_volatility (nets_in product factors)

-- those among the factors of a place
abbrev pub pair_nets : List (FactorKey × Holding) → List (Amount PairVolatility)
pair_nets factors = select as_pair_volatility (map net_of factors)

-- those of a book in range, each at the volatility of its pair
abbrev pub ArePairsInRange : Params → List (Amount PairVolatility) → Type 0
ArePairsInRange p amounts = AreRunsInRange (λ v. fx_sigma p v.pair) amounts

-- ---- their order: by pair and tenor

abbrev pub pair_volatility_cmp : PairVolatility → PairVolatility → Ordering
pair_volatility_cmp x y =
    ordering_then (pair_cmp x.pair y.pair) (nat_cmp (tenor_place x.tenor) (tenor_place y.tenor))

-- those that can be measured: different ones in order, in range
pub record ArePairs (p : Params) (amounts : List (Amount PairVolatility)) : Type 0 where
  pub ascends : IsStrictlySortedBy pair_volatility_cmp (map (λ a. a.of) amounts)
  pub range : ArePairsInRange p amounts

-- ---- what those of a pair come to, each times what its tenor counts

abbrev pub pair_total : TenorScale → List (Amount PairVolatility) → Pair → ℤ
pair_total scale amounts pair = total_by (λ a. scale_by scale a.of *ℤ a.amount) (pair_tenors amounts pair)

abbrev pub pair_totals : TenorScale → List (Amount PairVolatility) → List (Amount Pair)
pair_totals scale amounts = map (λ pair. record { of = pair; amount = pair_total scale amounts pair }) (pairs_of amounts)

-- ---- the rule's factor of a pair, by what its volatilities come to

-- vega: a concentration group by itself
abbrev pub vega_pair : Params → Amount Pair → Weighted Pair
vega_pair p sum =
    let risk = vega_risk p.fx.hvr (fx_sigma p sum.of) sum.amount in
    record {
      of = sum.of;
      w = weighted_value p.fx.vrw risk (cr risk (fx_vega_threshold p sum.of));
      cr = cr risk (fx_vega_threshold p sum.of);
    }

abbrev pub curved_sum : Params → Amount Pair → Weighted Pair
curved_sum p sum = curved sum.of (risk_of (fx_sigma p sum.of) sum.amount)

-- ---- as the code has them

abbrev pub volatility_view : HeldVolatility → PairVolatility
volatility_view v = record { pair = v.pair; tenor = v.tenor }

abbrev pub tenor_view : TenorNet CurrencyPair → Amount PairVolatility
tenor_view n = record { of = record { pair = n.of; tenor = n.tenor }; amount = n.net }

abbrev pub pair_sum : TenorSum CurrencyPair → Amount Pair
pair_sum s = sum_view s

abbrev pub pair_sums : List (TenorSum CurrencyPair) → List (Amount Pair)
pair_sums sums = map pair_sum sums

-- a sum whose vega can be weighed
pub record CanWeigh (p : Params) (s : TenorSum CurrencyPair) : Type 0 where
  pub size : unsigned_abs s.sum ≤ 2 * 10 ^ 20
  pub small : IsSmall (fx_sigma p s.of) s.sum
