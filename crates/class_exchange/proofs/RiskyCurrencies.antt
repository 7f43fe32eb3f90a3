-- Currencies: where they stand, and in which order.
use Rattle.std.proofs.Common.{◌≡◌, ℕ, List, [], ◌∷◌, map, Bool, true, false, not, cond, Option, Some, None, refl, sym, ap, ◌∙◌, subst, All}
use Rattle.std.specs.declared.cmp.Ordering.TheVariants.{Less}
use Rattle.std.specs.List.{filter, AllByRecursion}
use Rattle.std.specs.List.Sorted.{IsStrictlySortedBy}
use Rattle.std.proofs.lemmas.Bool.{not-true}
use Rattle.std.proofs.lemmas.List.Elements.{All-from_recursion}
use Rattle.std.proofs.lemmas.Simd.{map-map}
use Rattle.measured_bucket.specs.SimmKinds.declared.kinds.ProductClass.{ProductClass}
use Rattle.measured_bucket.specs.SimmKinds.declared.factor.Factor.{Factor}
use Rattle.measured_bucket.specs.SimmKinds.declared.factor.Factor.TheVariants as factor
use Rattle.measured_bucket.specs.SimmKinds.declared.key.FactorKey.{FactorKey}
use Rattle.measured_bucket.specs.SimmKinds.Order.{same_product, key_cmp, name_cmp}
use Rattle.measured_bucket.specs.SimmRules.Params.{Params}
use Rattle.measured_bucket.specs.SimmRules.Net.{Sensitivity}
use Rattle.measured_bucket.specs.SimmRules.Risks.{risk, Amount, select}
use Rattle.measured_bucket.specs.SimmRules.ForeignExchange.{as_currency, is_own_currency, fx_weight}
use Rattle.measured_bucket.specs.FactorBook.declared.holding.Holding.{Holding}
use Rattle.measured_bucket.specs.FactorBook.Factors.{net_of, IsBook}
use Rattle.measured_bucket.specs.FactorBook.Places.{stands_at, factors_at}
use Rattle.measured_bucket.specs.Values.{nets_in, IsInRange}
use Rattle.measured_bucket.proofs.Keys.{then_Equal, and_trues, key_with, by_factor}
use Rattle.measured_bucket.proofs.Lists.{each_map, each_weaker, kept_pass, map-itself}
use Rattle.measured_bucket.proofs.Selected.{select_none, select_some, select_place, select_ascends}
use Rattle.class_exchange.specs.declared.currencies.CurrencyNet.{CurrencyNet}
use Rattle.class_exchange.specs.Currencies.{unless_own, as_risky, risky_nets, currencies_in, currency_place, currency_net, currency_view, currencies_view, AreRisky, IsRisky, AreCurrencies}

is_currency : (f : Factor) (x : List ℕ) → as_currency (risk f) ≡ Some x → f ≡ factor.Fx x
is_currency (factor.IrCurve c t s) x h = absurd (cc)
is_currency (factor.Inflation c) x h = absurd (cc)
is_currency (factor.XccyBasis c) x h = absurd (cc)
is_currency (factor.IrVol c t) x h = absurd (cc)
is_currency (factor.InflationVol c t) x h = absurd (cc)
is_currency (factor.CreditQ i b t l) x h = absurd (cc)
is_currency (factor.CreditVol i b t l) x h = absurd (cc)
is_currency (factor.CreditNonQ i b t l) x h = absurd (cc)
is_currency (factor.CreditVolNonQ i b t l) x h = absurd (cc)
is_currency (factor.BaseCorr i) x h = absurd (cc)
is_currency (factor.Equity i b) x h = absurd (cc)
is_currency (factor.EquityVol i b t) x h = absurd (cc)
is_currency (factor.Commodity n b) x h = absurd (cc)
is_currency (factor.CommodityVol n b t) x h = absurd (cc)
is_currency (factor.Fx c) x h = cc
is_currency (factor.FxVol p t) x h = absurd (cc)

-- ---- those that are a risk

module _ (p : Params) where
  was_currency : (o : Option (List ℕ)) (x : List ℕ) → unless_own p o ≡ Some x → o ≡ Some x
  was_currency None x h = absurd (cc)
  was_currency (Some c) x h = chosen (is_own_currency p c) h
    where
      chosen : (t : Bool) → cond t None (Some c) ≡ Some x → Some c ≡ Some x
      chosen true e = absurd (cc)
      chosen false e = e

  is_risky : (f : Factor) (x : List ℕ) → as_risky p (risk f) ≡ Some x → f ≡ factor.Fx x
  is_risky f x h = is_currency f x (was_currency (as_currency (risk f)) x h)

  abbrev is_other : Amount (List ℕ) → Bool
  is_other a = not (is_own_currency p a.of)

  select-risky : (ss : List Sensitivity) → select (as_risky p) ss ≡ filter is_other (select as_currency ss)
  select-risky [] = refl
  select-risky (s ∷ ss) = at (as_currency (risk s.key.factor)) refl (select-risky ss)
    where
      by : (t : Bool) (x : List ℕ) → is_own_currency p x ≡ t → as_currency (risk s.key.factor) ≡ Some x → select (as_risky p) ss ≡ filter is_other (select as_currency ss)
          → select (as_risky p) (s ∷ ss) ≡ cond (not t) (record { of = x; amount = s.amount } ∷ filter is_other (select as_currency ss)) (filter is_other (select as_currency ss))
      by true x own e i = select_none (as_risky p) s ss (ap (unless_own p) e ∙ ap (λ t. cond t None (Some x)) own) ∙ i
      by false x own e i = select_some (as_risky p) s ss x (ap (unless_own p) e ∙ ap (λ t. cond t None (Some x)) own) ∙ ap (λ rest. record { of = x; amount = s.amount } ∷ rest) i

      at : (o : Option (List ℕ)) → as_currency (risk s.key.factor) ≡ o → select (as_risky p) ss ≡ filter is_other (select as_currency ss) → select (as_risky p) (s ∷ ss) ≡ filter is_other (select as_currency (s ∷ ss))
      at None e i = select_none (as_risky p) s ss (ap (unless_own p) e) ∙ i ∙ sym (ap (filter is_other) (select_none as_currency s ss e))
      at (Some x) e i = by (is_own_currency p x) x refl e i ∙ sym (ap (filter is_other) (select_some as_currency s ss x e))

  -- ---- where they stand, and in which order

  stands : (product : ProductClass) (k : FactorKey) (x : List ℕ) → as_risky p (risk k.factor) ≡ Some x → stands_at (currency_place product) k ≡ same_product k.product product
  stands product k x e = ap (λ f. stands_at (currency_place product) (key_with k.product f)) (is_risky k.factor x e) ∙ and_trues (same_product k.product product)

  -- those of the place are those of the product class
  pub currencies_there : (product : ProductClass) (fs : List (FactorKey × Holding)) → risky_nets p (factors_at (currency_place product) fs) ≡ currencies_in p product fs
  currencies_there product fs = select_place (as_risky p) (currency_place product) (stands product) fs ∙ select-risky (nets_in product fs)

  less : (product : ProductClass) (k l : FactorKey) (x y : List ℕ) → same_product k.product product ≡ true → same_product l.product product ≡ true → as_risky p (risk k.factor) ≡ Some x → as_risky p (risk l.factor) ≡ Some y → key_cmp k l ≡ Less → name_cmp x y ≡ Less
  less product k l x y g h e d lt =
      sym (by_factor product k l (factor.Fx x) (factor.Fx y) g h (is_risky k.factor x e) (is_risky l.factor y d) ∙ then_Equal (name_cmp x y)) ∙ lt

  pub currencies_ascend : (product : ProductClass) (fs : List (FactorKey × Holding)) → IsBook fs → IsStrictlySortedBy name_cmp (map (λ a. a.of) (currencies_in p product fs))
  currencies_ascend product fs book =
      subst (λ amounts. IsStrictlySortedBy name_cmp (map (λ a. a.of) amounts)) (select-risky (nets_in product fs)) (select_ascends (as_risky p) name_cmp product (less product) fs book)

  -- ---- as the code has them

  each_other : (ss : List Sensitivity) → AllByRecursion (λ a. is_other a ≡ true) (select (as_risky p) ss)
  each_other ss = subst (AllByRecursion (λ a. is_other a ≡ true)) (sym (select-risky ss)) (kept_pass is_other (select as_currency ss))

  module _ (its : List (FactorKey × Holding)) (nets : List CurrencyNet) (are : nets ≡ map (currency_net p) (risky_nets p its)) where
    abbrev amounts : List (Amount (List ℕ))
    amounts = risky_nets p its

    pub views : currencies_view nets ≡ amounts
    views = ap currencies_view are ∙ map-map currency_view (currency_net p) amounts ∙ map-itself (λ a. currency_view (currency_net p a)) (λ a. refl) amounts

    each_risky : AllByRecursion (λ a. IsRisky p (currency_net p a)) amounts
    each_risky =
        each_weaker (λ (a : Amount (List ℕ)). is_other a ≡ true) (λ a. IsRisky p (currency_net p a)) (λ a other. record { other = not-true (is_own_currency p a.of) other; category = refl }) amounts
        (each_other (map net_of its))

    pub all_risky : All (IsRisky p) nets
    all_risky =
        subst (All (IsRisky p)) (sym are) (All-from_recursion (IsRisky p) (map (currency_net p) amounts)
        (each_map (IsRisky p) (currency_net p) amounts each_risky))

    pub are_currencies : AreRisky p amounts → AreCurrencies p nets
    are_currencies risky = record {
      ascends = subst (λ xs. IsStrictlySortedBy name_cmp (map (λ a. a.of) xs)) (sym views) risky.ascends;
      range = subst (IsInRange (fx_weight p)) (sym views) risky.range;
      risky = all_risky;
    }
