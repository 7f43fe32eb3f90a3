-- What a book lends at a currency's place on the side of delta is its rates, in order.
use Rattle.std.proofs.Common.{◌≡◌, ℕ, List, [], ◌∷◌, map, ◌==◌, true, false, Option, Some, None, refl, sym, ap, ◌∙◌}
use Rattle.std.specs.List.Sorted.{IsStrictlySortedBy}
use Rattle.std.specs.declared.cmp.Ordering.TheVariants.{Equal}
use Rattle.std.specs.Ordering.{nat_cmp, ordering_then, is_eq}
use Rattle.std.specs.Cmp.{IsTotalOrder, both_tied}
use Rattle.std.proofs.lemmas.Cmp.{nat_cmp_total, nat_list_cmp_total, tied_itself, then_total, on_total}
use Rattle.std.proofs.lemmas.Simd.{map-map}
use Rattle.measured_bucket.specs.SimmKinds.declared.kinds.ProductClass.{ProductClass}
use Rattle.measured_bucket.specs.SimmKinds.declared.kinds.BucketId.TheVariants as id
use Rattle.measured_bucket.specs.SimmKinds.declared.factor.Factor.{Factor}
use Rattle.measured_bucket.specs.SimmKinds.declared.factor.Factor.TheVariants as factor
use Rattle.measured_bucket.specs.SimmKinds.declared.key.FactorKey.{FactorKey}
use Rattle.measured_bucket.specs.SimmKinds.Factors.{bucket_id_of}
use Rattle.measured_bucket.specs.SimmKinds.Order.{same_product, same_name, factor_cmp, name_cmp, tenor_place, sub_place, same_bucket_id}
use Rattle.measured_bucket.specs.SimmRules.Risks.{Risk, risk, Rate, Curve, Inflation, Basis, Amount}
use Rattle.measured_bucket.specs.SimmRules.Rates.{RateIn, as_rate, same_rate}
use Rattle.measured_bucket.specs.FactorBook.declared.holding.Holding.{Holding}
use Rattle.measured_bucket.specs.FactorBook.Factors.{IsBook}
use Rattle.measured_bucket.specs.FactorBook.Places.{stands_at, factors_at}
use Rattle.measured_bucket.proofs.Keys.{then_Equal, is_eq-nat, and_last, and_other, and_side, and_bucket, key_with, not_chosen}
use Rattle.measured_bucket.proofs.Lists.{map-itself}
use Rattle.class_rates.specs.declared.rates.RateNet.{RateNet}
use Rattle.class_rates.specs.Places.{rates_place, rates_of}
use Rattle.class_rates.specs.Rates.{as_rate_alone, rate_nets, rates_among, rate_kind, curve_tenor, curve_sub, rate_cmp, rule_net, with_currency, rates_view}
use Rattle.class_rates.proofs.Currencies.{same_itself, own, there, says, stands, ascend, of_currency}

-- ---- their order

pub rate_total : IsTotalOrder rate_cmp
rate_total = then_total (on_total rate_kind nat_cmp_total) (then_total (on_total curve_tenor nat_cmp_total) (on_total curve_sub nat_cmp_total))

-- two rates are the same where their order says so
pub rate_tests : (x y : Rate) → same_rate x y ≡ is_eq (rate_cmp x y)
rate_tests (Curve t s) (Curve u v) =
    both_tied (tenor_place t == tenor_place u) (sub_place s == sub_place v) (nat_cmp (tenor_place t) (tenor_place u)) (nat_cmp (sub_place s) (sub_place v)) (sym (is_eq-nat (tenor_place t) (tenor_place u))) (sym (is_eq-nat (sub_place s) (sub_place v)))
rate_tests (Curve t s) Inflation = refl
rate_tests (Curve t s) Basis = refl
rate_tests Inflation (Curve u v) = refl
rate_tests Inflation Inflation = refl
rate_tests Inflation Basis = refl
rate_tests Basis (Curve u v) = refl
rate_tests Basis Inflation = refl
rate_tests Basis Basis = refl

module _ (currency : List ℕ) where
  abbrev own_rate : Risk → Option Rate
  own_rate = own as_rate (λ (r : RateIn). r.currency) (λ (r : RateIn). r.rate) currency

  -- ---- which factors they are

  abbrev factor_of : Rate → Factor
  factor_of (Curve t s) = factor.IrCurve currency t s
  factor_of Inflation = factor.Inflation currency
  factor_of Basis = factor.XccyBasis currency

  is_factor : (f : Factor) (x : Rate) → own_rate (risk f) ≡ Some x → f ≡ factor_of x
  is_factor (factor.IrCurve n t s) x h = of_currency currency factor_of (λ c. factor.IrCurve c t s) n (Curve t s) x refl h
  is_factor (factor.Inflation n) x h = of_currency currency factor_of (λ c. factor.Inflation c) n Inflation x refl h
  is_factor (factor.XccyBasis n) x h = of_currency currency factor_of (λ c. factor.XccyBasis c) n Basis x refl h
  is_factor (factor.IrVol n t) x h = absurd (cc)
  is_factor (factor.InflationVol n t) x h = absurd (cc)
  is_factor (factor.CreditQ i b t l) x h = absurd (cc)
  is_factor (factor.CreditVol i b t l) x h = absurd (cc)
  is_factor (factor.CreditNonQ i b t l) x h = absurd (cc)
  is_factor (factor.CreditVolNonQ i b t l) x h = absurd (cc)
  is_factor (factor.BaseCorr i) x h = absurd (cc)
  is_factor (factor.Equity i b) x h = absurd (cc)
  is_factor (factor.EquityVol i b t) x h = absurd (cc)
  is_factor (factor.Commodity n b) x h = absurd (cc)
  is_factor (factor.CommodityVol n b t) x h = absurd (cc)
  is_factor (factor.Fx n) x h = absurd (cc)
  is_factor (factor.FxVol p t) x h = absurd (cc)

  itself : (x : Rate) → as_rate_alone (risk (factor_of x)) ≡ Some x
  itself (Curve t s) = refl
  itself Inflation = refl
  itself Basis = refl

  -- ---- where they stand

  own_stands : (product c : ProductClass) (x : Rate) → stands_at (rates_place currency product) (key_with c (factor_of x)) ≡ same_product c product
  own_stands product c (Curve t s) = and_last (same_product c product) (same_name currency currency) (same_itself currency)
  own_stands product c Inflation = and_last (same_product c product) (same_name currency currency) (same_itself currency)
  own_stands product c Basis = and_last (same_product c product) (same_name currency currency) (same_itself currency)

  elsewhere : (product c : ProductClass) (f : Factor) → own_rate (risk f) ≡ None → stands_at (rates_place currency product) (key_with c f) ≡ false
  elsewhere product c (factor.IrCurve n t s) h = and_bucket (same_product c product) (same_name n currency) (not_chosen (same_name n currency) (Curve t s) h)
  elsewhere product c (factor.Inflation n) h = and_bucket (same_product c product) (same_name n currency) (not_chosen (same_name n currency) Inflation h)
  elsewhere product c (factor.XccyBasis n) h = and_bucket (same_product c product) (same_name n currency) (not_chosen (same_name n currency) Basis h)
  elsewhere product c (factor.IrVol n t) h = and_side (same_product c product) (same_bucket_id (id.Currency n) (id.Currency currency))
  elsewhere product c (factor.InflationVol n t) h = and_side (same_product c product) (same_bucket_id (id.Currency n) (id.Currency currency))
  elsewhere product c (factor.CreditQ i b t l) h = and_other (same_product c product) true (same_bucket_id (bucket_id_of b) (id.Currency currency))
  elsewhere product c (factor.CreditVol i b t l) h = and_other (same_product c product) false (same_bucket_id (bucket_id_of b) (id.Currency currency))
  elsewhere product c (factor.CreditNonQ i b t l) h = and_other (same_product c product) true (same_bucket_id (bucket_id_of b) (id.Currency currency))
  elsewhere product c (factor.CreditVolNonQ i b t l) h = and_other (same_product c product) false (same_bucket_id (bucket_id_of b) (id.Currency currency))
  elsewhere product c (factor.BaseCorr i) h = and_other (same_product c product) true (same_bucket_id id.Single (id.Currency currency))
  elsewhere product c (factor.Equity i b) h = and_other (same_product c product) true (same_bucket_id (bucket_id_of b) (id.Currency currency))
  elsewhere product c (factor.EquityVol i b t) h = and_other (same_product c product) false (same_bucket_id (bucket_id_of b) (id.Currency currency))
  elsewhere product c (factor.Commodity n b) h = and_other (same_product c product) true (same_bucket_id (id.Number b) (id.Currency currency))
  elsewhere product c (factor.CommodityVol n b t) h = and_other (same_product c product) false (same_bucket_id (id.Number b) (id.Currency currency))
  elsewhere product c (factor.Fx n) h = and_other (same_product c product) true (same_bucket_id id.Single (id.Currency currency))
  elsewhere product c (factor.FxVol p t) h = and_other (same_product c product) false (same_bucket_id id.Single (id.Currency currency))

  -- what is read of its place is what stands there
  pub read_rates : (its : List (FactorKey × Holding)) (nets : List RateNet) → map rule_net nets ≡ rate_nets its → rates_view currency nets ≡ rates_among currency its
  read_rates its nets read = sym (map-map (with_currency currency) rule_net nets) ∙ ap (map (with_currency currency)) read

  -- the rates of the place are those of the currency
  pub rates_there : (product : ProductClass) (fs : List (FactorKey × Holding)) → rates_among currency (factors_at (rates_place currency product) fs) ≡ rates_of currency product fs
  rates_there product fs =
      let its = rate_nets (factors_at (rates_place currency product) fs) in
      there as_rate (λ (r : RateIn). r.currency) (λ (r : RateIn). r.rate) currency as_rate_alone (rates_place currency product)
      (stands as_rate (λ (r : RateIn). r.currency) (λ (r : RateIn). r.rate) currency factor_of is_factor (rates_place currency product) product (own_stands product))
      (λ k x e. says as_rate (λ (r : RateIn). r.currency) (λ (r : RateIn). r.rate) currency factor_of is_factor as_rate_alone itself k.factor x e)
      (λ k e. elsewhere product k.product k.factor e) fs (λ rate. record { currency = currency; rate = rate }) (λ v own. ap (λ c. record { currency = c; rate = v.rate }) (sym own)) (λ (a : Amount Rate). a) its (map-itself (λ (a : Amount Rate). a) (λ a. refl) its)

  -- ---- in which order

  in_order : (x y : Rate) → factor_cmp (factor_of x) (factor_of y) ≡ rate_cmp x y
  in_order (Curve t s) (Curve u v) =
      let tenors = name_cmp (tenor_place t ∷ []) (tenor_place u ∷ []) in
      let subs = name_cmp (sub_place s ∷ []) (sub_place v ∷ []) in
      ap (λ o. ordering_then o (ordering_then tenors (ordering_then subs Equal))) (tied_itself nat_list_cmp_total currency)
      ∙ ap (λ o. ordering_then o (ordering_then subs Equal)) (then_Equal (nat_cmp (tenor_place t) (tenor_place u)))
      ∙ ap (ordering_then (nat_cmp (tenor_place t) (tenor_place u))) (then_Equal subs ∙ then_Equal (nat_cmp (sub_place s) (sub_place v)))
  in_order (Curve t s) Inflation = refl
  in_order (Curve t s) Basis = refl
  in_order Inflation (Curve u v) = refl
  in_order Inflation Inflation = then_Equal (name_cmp currency currency) ∙ tied_itself nat_list_cmp_total currency
  in_order Inflation Basis = refl
  in_order Basis (Curve u v) = refl
  in_order Basis Inflation = refl
  in_order Basis Basis = then_Equal (name_cmp currency currency) ∙ tied_itself nat_list_cmp_total currency

  pub rates_ascend : (product : ProductClass) (fs : List (FactorKey × Holding)) → IsBook fs → IsStrictlySortedBy rate_cmp (map (λ a. (a.of).rate) (rates_of currency product fs))
  rates_ascend product fs book = ascend as_rate (λ (r : RateIn). r.currency) (λ (r : RateIn). r.rate) currency factor_of is_factor rate_cmp in_order product fs book
