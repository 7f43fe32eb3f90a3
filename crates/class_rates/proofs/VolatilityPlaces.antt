-- What a book lends at a currency's place on the side of volatility is its volatilities, in order.
use Rattle.std.proofs.Common.{◌≡◌, ℕ, List, [], ◌∷◌, map, true, false, Option, Some, None, refl, sym, ap, ◌∙◌}
use Rattle.std.specs.List.Sorted.{IsStrictlySortedBy}
use Rattle.std.specs.declared.cmp.Ordering.TheVariants.{Equal}
use Rattle.std.specs.Ordering.{nat_cmp, ordering_then, is_eq}
use Rattle.std.specs.Cmp.{IsTotalOrder}
use Rattle.std.proofs.lemmas.Cmp.{nat_cmp_total, nat_list_cmp_total, tied_itself, then_total, on_total}
use Rattle.std.proofs.lemmas.Simd.{map-map}
use Rattle.measured_bucket.specs.SimmKinds.declared.kinds.ProductClass.{ProductClass}
use Rattle.measured_bucket.specs.SimmKinds.declared.kinds.BucketId.TheVariants as id
use Rattle.measured_bucket.specs.SimmKinds.declared.factor.Factor.{Factor}
use Rattle.measured_bucket.specs.SimmKinds.declared.factor.Factor.TheVariants as factor
use Rattle.measured_bucket.specs.SimmKinds.declared.key.FactorKey.{FactorKey}
use Rattle.measured_bucket.specs.SimmKinds.Factors.{bucket_id_of}
use Rattle.measured_bucket.specs.SimmKinds.Order.{same_product, same_name, factor_cmp, name_cmp, tenor_place, same_bucket_id}
use Rattle.measured_bucket.specs.SimmRules.Risks.{Risk, risk, RateVolatility, Of_rates, Of_inflation, Amount}
use Rattle.measured_bucket.specs.SimmRules.Rates.{VolatilityIn, as_rate_volatility, same_rate_volatility, tenor_of}
use Rattle.measured_bucket.specs.FactorBook.declared.place.Place.{Place}
use Rattle.measured_bucket.specs.FactorBook.declared.holding.Holding.{Holding}
use Rattle.measured_bucket.specs.FactorBook.Factors.{IsBook}
use Rattle.measured_bucket.specs.FactorBook.Places.{stands_at, factors_at}
use Rattle.measured_bucket.proofs.Keys.{then_Equal, is_eq-nat, and_last, and_other, and_side, and_bucket, key_with, not_chosen}
use Rattle.measured_bucket.proofs.Lists.{map-itself}
use Rattle.class_rates.specs.declared.volatilities.VolatilityNet.{VolatilityNet}
use Rattle.class_rates.specs.Places.{volatilities_place, volatilities_of}
use Rattle.class_rates.specs.Volatilities.{as_volatility_alone, volatility_nets, volatilities_among, volatility_kind, volatility_cmp, without_currency, rule_net, with_currency, volatilities_view}
use Rattle.class_rates.proofs.Currencies.{same_itself, own, nets_are, there, says, stands, ascend, of_currency}

-- ---- their order

pub volatility_total : IsTotalOrder volatility_cmp
volatility_total = then_total (on_total volatility_kind nat_cmp_total) (on_total (λ v. tenor_place (tenor_of v)) nat_cmp_total)

-- two volatilities are the same where their order says so
pub volatility_tests : (x y : RateVolatility) → same_rate_volatility x y ≡ is_eq (volatility_cmp x y)
volatility_tests (Of_rates t) (Of_rates u) = sym (is_eq-nat (tenor_place t) (tenor_place u))
volatility_tests (Of_rates t) (Of_inflation u) = refl
volatility_tests (Of_inflation t) (Of_rates u) = refl
volatility_tests (Of_inflation t) (Of_inflation u) = sym (is_eq-nat (tenor_place t) (tenor_place u))

module _ (currency : List ℕ) where
  abbrev own_volatility : Risk → Option RateVolatility
  own_volatility = own as_rate_volatility (λ (v : VolatilityIn). v.currency) (λ (v : VolatilityIn). v.volatility) currency

  -- ---- which factors they are

  abbrev factor_of : RateVolatility → Factor
  factor_of (Of_rates t) = factor.IrVol currency t
  factor_of (Of_inflation t) = factor.InflationVol currency t

  is_factor : (f : Factor) (x : RateVolatility) → own_volatility (risk f) ≡ Some x → f ≡ factor_of x
  is_factor (factor.IrCurve n t s) x h = absurd (cc)
  is_factor (factor.Inflation n) x h = absurd (cc)
  is_factor (factor.XccyBasis n) x h = absurd (cc)
  is_factor (factor.IrVol n t) x h = of_currency currency factor_of (λ c. factor.IrVol c t) n (Of_rates t) x refl h
  is_factor (factor.InflationVol n t) x h = of_currency currency factor_of (λ c. factor.InflationVol c t) n (Of_inflation t) x refl h
  is_factor (factor.CreditQ i b t l) x h = absurd (cc)
  is_factor (factor.CreditVol i b t l) x h = absurd (cc)
  is_factor (factor.CreditNonQ i b t l) x h = absurd (cc)
  is_factor (factor.CreditVolNonQ i b t l) x h = absurd (cc)
  is_factor (factor.BaseCorr i) x h = absurd (cc)
  is_factor (factor.Equity i b) x h = absurd (cc)
  is_factor (factor.EquityVol i b t) x h = absurd (cc)
  is_factor (factor.Commodity n b) x h = absurd (cc)
  is_factor (factor.CommodityVol n b t) x h = absurd (cc)
  is_factor (factor.Fx n) x h = absurd (cc)
  is_factor (factor.FxVol p t) x h = absurd (cc)

  itself : (x : RateVolatility) → as_volatility_alone (risk (factor_of x)) ≡ Some x
  itself (Of_rates t) = refl
  itself (Of_inflation t) = refl

  -- ---- where they stand

  own_stands : (product c : ProductClass) (x : RateVolatility) → stands_at (volatilities_place currency product) (key_with c (factor_of x)) ≡ same_product c product
  own_stands product c (Of_rates t) = and_last (same_product c product) (same_name currency currency) (same_itself currency)
  own_stands product c (Of_inflation t) = and_last (same_product c product) (same_name currency currency) (same_itself currency)

  elsewhere : (product c : ProductClass) (f : Factor) → own_volatility (risk f) ≡ None → stands_at (volatilities_place currency product) (key_with c f) ≡ false
  elsewhere product c (factor.IrCurve n t s) h = and_side (same_product c product) (same_bucket_id (id.Currency n) (id.Currency currency))
  elsewhere product c (factor.Inflation n) h = and_side (same_product c product) (same_bucket_id (id.Currency n) (id.Currency currency))
  elsewhere product c (factor.XccyBasis n) h = and_side (same_product c product) (same_bucket_id (id.Currency n) (id.Currency currency))
  elsewhere product c (factor.IrVol n t) h = and_bucket (same_product c product) (same_name n currency) (not_chosen (same_name n currency) (Of_rates t) h)
  elsewhere product c (factor.InflationVol n t) h = and_bucket (same_product c product) (same_name n currency) (not_chosen (same_name n currency) (Of_inflation t) h)
  elsewhere product c (factor.CreditQ i b t l) h = and_other (same_product c product) false (same_bucket_id (bucket_id_of b) (id.Currency currency))
  elsewhere product c (factor.CreditVol i b t l) h = and_other (same_product c product) true (same_bucket_id (bucket_id_of b) (id.Currency currency))
  elsewhere product c (factor.CreditNonQ i b t l) h = and_other (same_product c product) false (same_bucket_id (bucket_id_of b) (id.Currency currency))
  elsewhere product c (factor.CreditVolNonQ i b t l) h = and_other (same_product c product) true (same_bucket_id (bucket_id_of b) (id.Currency currency))
  elsewhere product c (factor.BaseCorr i) h = and_other (same_product c product) false (same_bucket_id id.Single (id.Currency currency))
  elsewhere product c (factor.Equity i b) h = and_other (same_product c product) false (same_bucket_id (bucket_id_of b) (id.Currency currency))
  elsewhere product c (factor.EquityVol i b t) h = and_other (same_product c product) true (same_bucket_id (bucket_id_of b) (id.Currency currency))
  elsewhere product c (factor.Commodity n b) h = and_other (same_product c product) false (same_bucket_id (id.Number b) (id.Currency currency))
  elsewhere product c (factor.CommodityVol n b t) h = and_other (same_product c product) true (same_bucket_id (id.Number b) (id.Currency currency))
  elsewhere product c (factor.Fx n) h = and_other (same_product c product) false (same_bucket_id id.Single (id.Currency currency))
  elsewhere product c (factor.FxVol p t) h = and_other (same_product c product) true (same_bucket_id id.Single (id.Currency currency))

  module _ (product : ProductClass) (fs : List (FactorKey × Holding)) where
    abbrev place : Place
    place = volatilities_place currency product

    stand : (k : FactorKey) (x : RateVolatility) → own_volatility (risk k.factor) ≡ Some x → stands_at place k ≡ same_product k.product product
    stand = stands as_rate_volatility (λ (v : VolatilityIn). v.currency) (λ (v : VolatilityIn). v.volatility) currency factor_of is_factor place product (own_stands product)

    say : (k : FactorKey) (x : RateVolatility) → own_volatility (risk k.factor) ≡ Some x → as_volatility_alone (risk k.factor) ≡ Some x
    say k x e = says as_rate_volatility (λ (v : VolatilityIn). v.currency) (λ (v : VolatilityIn). v.volatility) currency factor_of is_factor as_volatility_alone itself k.factor x e

    -- the nets of the place are those of the currency
    pub volatility_nets_are : volatility_nets (factors_at (volatilities_place currency product) fs) ≡ map without_currency (volatilities_of currency product fs)
    volatility_nets_are = nets_are as_rate_volatility (λ (v : VolatilityIn). v.currency) (λ (v : VolatilityIn). v.volatility) currency as_volatility_alone place stand say (λ k e. elsewhere product k.product k.factor e) fs

    -- with the currency again
    pub volatilities_there : volatilities_among currency (factors_at (volatilities_place currency product) fs) ≡ volatilities_of currency product fs
    volatilities_there =
        let its = volatility_nets (factors_at (volatilities_place currency product) fs) in
        there as_rate_volatility (λ (v : VolatilityIn). v.currency) (λ (v : VolatilityIn). v.volatility) currency as_volatility_alone place stand say (λ k e. elsewhere product k.product k.factor e) fs
        (λ volatility. record { currency = currency; volatility = volatility }) (λ v own. ap (λ c. record { currency = c; volatility = v.volatility }) (sym own)) (λ (a : Amount RateVolatility). a) its (map-itself (λ (a : Amount RateVolatility). a) (λ a. refl) its)

  -- what is read of its place is what stands there
  pub read_volatilities : (its : List (FactorKey × Holding)) (nets : List VolatilityNet) → map rule_net nets ≡ volatility_nets its → volatilities_view currency nets ≡ volatilities_among currency its
  read_volatilities its nets read = sym (map-map (with_currency currency) rule_net nets) ∙ ap (map (with_currency currency)) read

  -- ---- in which order

  by_tenor : (t u : ℕ) → ordering_then (name_cmp currency currency) (ordering_then (name_cmp (t ∷ []) (u ∷ [])) Equal) ≡ nat_cmp t u
  by_tenor t u = ap (λ o. ordering_then o (ordering_then (name_cmp (t ∷ []) (u ∷ [])) Equal)) (tied_itself nat_list_cmp_total currency) ∙ then_Equal (name_cmp (t ∷ []) (u ∷ [])) ∙ then_Equal (nat_cmp t u)

  in_order : (x y : RateVolatility) → factor_cmp (factor_of x) (factor_of y) ≡ volatility_cmp x y
  in_order (Of_rates t) (Of_rates u) = by_tenor (tenor_place t) (tenor_place u)
  in_order (Of_rates t) (Of_inflation u) = refl
  in_order (Of_inflation t) (Of_rates u) = refl
  in_order (Of_inflation t) (Of_inflation u) = by_tenor (tenor_place t) (tenor_place u)

  pub volatilities_ascend : (product : ProductClass) (fs : List (FactorKey × Holding)) → IsBook fs → IsStrictlySortedBy volatility_cmp (map (λ a. (a.of).volatility) (volatilities_of currency product fs))
  volatilities_ascend product fs book = ascend as_rate_volatility (λ (v : VolatilityIn). v.currency) (λ (v : VolatilityIn). v.volatility) currency factor_of is_factor volatility_cmp in_order product fs book
