-- No weight is greater than a file can have.
use Rattle.std.proofs.Common.{ℕ, ◌^◌, ◌≤◌, List, [], ◌∷◌, Bool, true, false, ◌&&◌, ◌||◌, cond, if◌then◌else◌, Some, ℤ, pos, ◌≤ℤ◌, unsigned_abs, arith}
use Rattle.std.specs.List.{find, AllByRecursion}
use Rattle.std.proofs.lemmas.Int.{ints}
use Rattle.std.proofs.lemmas.List.Elements.{recursion_from_All}
use Rattle.simm_params.proofs.MhUnits.Integers.{size_from_bounds}
use Rattle.simm_params.specs.SimmKinds.declared.bucket.Bucket.{Bucket}
use Rattle.simm_params.specs.SimmKinds.declared.bucket.Bucket.TheVariants as bucket
use Rattle.simm_params.specs.SimmKinds.declared.factor.Factor.{Factor}
use Rattle.simm_params.specs.SimmKinds.declared.factor.Factor.TheVariants as factor
use Rattle.simm_params.specs.SimmKinds.Order.{same_bucket}
use Rattle.simm_params.specs.SimmRules.Params.{Params}
use Rattle.simm_params.specs.SimmRules.Risks.{Rate, Curve, Inflation, Basis}
use Rattle.simm_params.specs.SimmRules.declared.classes.CreditClass.{CreditClass}
use Rattle.simm_params.specs.SimmRules.declared.classes.CreditClass.TheVariants.{Qualifying, NonQualifying}
use Rattle.simm_params.specs.SimmRules.declared.classes.PricedClass.{PricedClass}
use Rattle.simm_params.specs.SimmRules.declared.classes.PricedClass.TheVariants.{Equities, Commodities}
use Rattle.simm_params.specs.SimmRules.Rates.{rate_weight}
use Rattle.simm_params.specs.SimmRules.Credit.{credit_params}
use Rattle.simm_params.specs.SimmRules.Priced.{priced_params}
use Rattle.simm_params.specs.SimmRules.ForeignExchange.{is_high, fx_weight, fx_threshold}
use Rattle.simm_params.specs.Facts.{IsParams, IsWeighed}
use Rattle.simm_params.specs.Weighed.{AreRatesWeighed, IsWeighedCredit, IsWeighedPriced, AreWeighedCredit, AreWeighedPriced}
use Rattle.book_range.specs.Weights.{rate_found, credit_weight, credit_volatility, price_weight, price_volatility, factor_weight}

within : (z : ℤ) → pos 0 ≤ℤ z → z ≤ℤ pos (10 ^ 8) → unsigned_abs z ≤ 10 ^ 8
within z low high = size_from_bounds z (10 ^ 8) (omega (arith, ints, low)) high

-- the rate of one that is found
found : {X : Type 0} (P : X → Type 0) (rate : X → ℤ) → ((x : X) → P x → unsigned_abs (rate x) ≤ 10 ^ 8) → (test : X → Bool) (xs : List X) → AllByRecursion P xs → unsigned_abs (rate_found rate (find test xs)) ≤ 10 ^ 8
found P rate low test [] h = omega arith
found P rate low test (x ∷ xs) h = by (test x) (found P rate low test xs h.1)
  where
    by : (t : Bool) → unsigned_abs (rate_found rate (find test xs)) ≤ 10 ^ 8 → unsigned_abs (rate_found rate (cond t (Some x) (find test xs))) ≤ 10 ^ 8
    by true i = low x h.0
    by false i = i

module _ (p : Params) (facts : IsParams p) (currencies : (currency : List ℕ) → IsWeighed (fx_weight p currency) (fx_threshold p currency)) (rates : (currency : List ℕ) → AreRatesWeighed p currency)
    (credit : (c : CreditClass) → AreWeighedCredit (credit_params p c)) (priced : (c : PricedClass) → AreWeighedPriced (priced_params p c)) where
  rate_low : (currency : List ℕ) (rate : Rate) → unsigned_abs (rate_weight p (record { currency = currency; rate = rate })) ≤ 10 ^ 8
  rate_low currency rate =
      let its = (rates currency).weight rate in
      within (rate_weight p (record { currency = currency; rate = rate })) (omega (arith, ints, its.low)) its.high

  credit_low : (c : CreditClass) (b : Bucket) → unsigned_abs (credit_weight p c b) ≤ 10 ^ 8
  credit_low c b =
      found IsWeighedCredit (λ k. (k.terms).weight) (λ k its. within (k.terms).weight ((its.terms).delta).weight_low ((its.terms).delta).weight_high) (λ k. same_bucket b (k.terms).id) (credit_params p c).buckets
      (recursion_from_All IsWeighedCredit (credit_params p c).buckets (credit c).buckets)

  credit_volatility_low : (c : CreditClass) (b : Bucket) → unsigned_abs (credit_volatility p c b) ≤ 10 ^ 8
  credit_volatility_low c b =
      found IsWeighedCredit (λ k. pos 10000) (λ k its. omega arith) (λ k. same_bucket b (k.terms).id) (credit_params p c).buckets
      (recursion_from_All IsWeighedCredit (credit_params p c).buckets (credit c).buckets)

  price_low : (c : PricedClass) (b : Bucket) → unsigned_abs (price_weight p c b) ≤ 10 ^ 8
  price_low c b =
      found IsWeighedPriced (λ k. (k.terms).weight) (λ k its. within (k.terms).weight ((its.terms).delta).weight_low ((its.terms).delta).weight_high) (λ k. same_bucket b (k.terms).id) (priced_params p c).buckets
      (recursion_from_All IsWeighedPriced (priced_params p c).buckets (priced c).buckets)

  price_volatility_low : (c : PricedClass) (b : Bucket) → unsigned_abs (price_volatility p c b) ≤ 10 ^ 8
  price_volatility_low c b =
      found IsWeighedPriced (λ k. k.sigma) (λ k its. within k.sigma (omega (arith, ints, (its.sigma).low)) (omega (arith, ints, (its.sigma).high))) (λ k. same_bucket b (k.terms).id) (priced_params p c).buckets
      (recursion_from_All IsWeighedPriced (priced_params p c).buckets (priced c).buckets)

  pair_low : (s t : Bool) → unsigned_abs (if s && t then p.fx.high_sigma else (if s || t then p.fx.mixed_sigma else p.fx.regular_sigma)) ≤ 10 ^ 8
  pair_low true true = let its = (facts.fx).high_sigma in within p.fx.high_sigma (omega (arith, ints, its.low)) (omega (arith, ints, its.high))
  pair_low true false = let its = (facts.fx).mixed_sigma in within p.fx.mixed_sigma (omega (arith, ints, its.low)) (omega (arith, ints, its.high))
  pair_low false true = let its = (facts.fx).mixed_sigma in within p.fx.mixed_sigma (omega (arith, ints, its.low)) (omega (arith, ints, its.high))
  pair_low false false = let its = (facts.fx).regular_sigma in within p.fx.regular_sigma (omega (arith, ints, its.low)) (omega (arith, ints, its.high))

  one : unsigned_abs (pos 10000) ≤ 10 ^ 8
  one = omega arith

  pub weights_low : (f : Factor) → unsigned_abs (factor_weight p f) ≤ 10 ^ 8
  weights_low (factor.IrCurve c t s) = rate_low c (Curve t s)
  weights_low (factor.Inflation c) = rate_low c Inflation
  weights_low (factor.XccyBasis c) = rate_low c Basis
  weights_low (factor.IrVol c t) = one
  weights_low (factor.InflationVol c t) = one
  weights_low (factor.CreditQ i b t l) = credit_low Qualifying b
  weights_low (factor.CreditVol i b t l) = credit_volatility_low Qualifying b
  weights_low (factor.CreditNonQ i b t l) = credit_low NonQualifying b
  weights_low (factor.CreditVolNonQ i b t l) = credit_volatility_low NonQualifying b
  weights_low (factor.BaseCorr i) = let its = facts.base_weight in within p.base_weight (omega (arith, ints, its.low)) its.high
  weights_low (factor.Equity i b) = price_low Equities b
  weights_low (factor.EquityVol i b t) = price_volatility_low Equities b
  weights_low (factor.Commodity n b) = price_low Commodities (bucket.Number b)
  weights_low (factor.CommodityVol n b t) = price_volatility_low Commodities (bucket.Number b)
  weights_low (factor.Fx c) = within (fx_weight p c) (currencies c).weight_low (currencies c).weight_high
  weights_low (factor.FxVol pair t) = pair_low (is_high p pair.first) (is_high p pair.second)
