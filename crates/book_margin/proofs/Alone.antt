-- The margin of a risk class hangs on what is read of its own factors.
use Rattle.std.proofs.Common.{◌≡◌, ◌^◌, ℕ, List, [], ◌∷◌, map, Bool, true, false, not, ◌&&◌, Option, None, refl, sym, ap, ◌∙◌, ℤ, pos, ◌+ℤ◌, ◌*ℤ◌}
use Rattle.std.specs.List.{filter}
use Rattle.std.proofs.lemmas.Bool.{false≢true}
use Rattle.kept_buckets.specs.MhUnits.Rounding.{up}
use Rattle.kept_buckets.specs.SimmKinds.declared.kinds.ProductClass.{ProductClass}
use Rattle.kept_buckets.specs.SimmKinds.declared.kinds.RiskClass.{RiskClass}
use Rattle.kept_buckets.specs.SimmKinds.declared.kinds.RiskClass.TheVariants as class
use Rattle.kept_buckets.specs.SimmKinds.declared.kinds.BucketId.TheVariants as id
use Rattle.kept_buckets.specs.SimmKinds.declared.bucket.Bucket.{Bucket}
use Rattle.kept_buckets.specs.SimmKinds.declared.factor.Factor.{Factor}
use Rattle.kept_buckets.specs.SimmKinds.declared.factor.Factor.TheVariants as factor
use Rattle.kept_buckets.specs.SimmKinds.declared.key.FactorKey.{FactorKey}
use Rattle.kept_buckets.specs.SimmKinds.Factors.{class_of}
use Rattle.kept_buckets.specs.SimmKinds.Order.{same_product, same_class, name_cmp, same_name}
use Rattle.kept_buckets.specs.SimmRules.Params.{Params}
use Rattle.kept_buckets.specs.SimmRules.Lookups.{six}
use Rattle.kept_buckets.specs.SimmRules.Sums.{different}
use Rattle.kept_buckets.specs.SimmRules.Net.{Sensitivity}
use Rattle.kept_buckets.specs.SimmRules.Risks.{Risk, risk, Amount, select}
use Rattle.kept_buckets.specs.SimmRules.declared.classes.CreditClass.{CreditClass}
use Rattle.kept_buckets.specs.SimmRules.declared.classes.CreditClass.TheVariants.{Qualifying, NonQualifying}
use Rattle.kept_buckets.specs.SimmRules.declared.classes.PricedClass.{PricedClass}
use Rattle.kept_buckets.specs.SimmRules.declared.classes.PricedClass.TheVariants.{Equities, Commodities}
use Rattle.kept_buckets.specs.SimmRules.Bucket.{combined}
use Rattle.kept_buckets.specs.SimmRules.Across.{Part, outer, margin_over}
use Rattle.kept_buckets.specs.SimmRules.Curvature.{curvature_part, curvature_over}
use Rattle.kept_buckets.specs.SimmRules.Rates.{RateIn, VolatilityIn, as_rate, as_rate_volatility, currency_value, currency_vega_value, currency_curvature_value, across_currencies, rate_margin}
use Rattle.kept_buckets.specs.SimmRules.Credit.{as_credit, as_credit_volatility, credit_params, listed_credit, credit_value, credit_vega_value, credit_curvature_value, credit_margin}
use Rattle.kept_buckets.specs.SimmRules.BaseCorrelation.{as_index, base_value, base_margin}
use Rattle.kept_buckets.specs.SimmRules.Priced.{as_price, as_price_volatility, priced_params, listed_priced, price_value, price_vega_value, price_curvature_value, price_margin}
use Rattle.kept_buckets.specs.SimmRules.ForeignExchange.{as_currency, as_pair_volatility, is_own_currency, fx_value, fx_vega_value, fx_curvature_value, fx_margin}
use Rattle.kept_buckets.specs.SimmRules.Simm.{class_margin_of}
use Rattle.kept_buckets.specs.FactorBook.declared.holding.Holding.{Holding}
use Rattle.kept_buckets.specs.SimmRules.RiskClasses.{credit_risk_class, priced_risk_class}
use Rattle.class_margin.specs.names_delta.Values.{nets_in}
use Rattle.class_margin.proofs.Alone.{select_alone}
use Rattle.kept_buckets.specs.Touched.{is_of_class}
use Rattle.book_margin.specs.Classes.{class_factors}

-- ---- a factor of another class is of none of the class's sorts

rate_else : (f : Factor) → same_class (class_of f) class.IR ≡ false → as_rate (risk f) ≡ None
rate_else (factor.IrCurve n t s) h = absurd (false≢true (sym h))
rate_else (factor.Inflation n) h = absurd (false≢true (sym h))
rate_else (factor.XccyBasis n) h = absurd (false≢true (sym h))
rate_else f h = refl

rate_volatility_else : (f : Factor) → same_class (class_of f) class.IR ≡ false → as_rate_volatility (risk f) ≡ None
rate_volatility_else (factor.IrVol n t) h = absurd (false≢true (sym h))
rate_volatility_else (factor.InflationVol n t) h = absurd (false≢true (sym h))
rate_volatility_else f h = refl

credit_else : (c : CreditClass) (b : Bucket) (f : Factor) → same_class (class_of f) (credit_risk_class c) ≡ false → as_credit c b (risk f) ≡ None
credit_else Qualifying b (factor.CreditQ i a t l) h = absurd (false≢true (sym h))
credit_else Qualifying b f h = refl
credit_else NonQualifying b (factor.CreditNonQ i a t l) h = absurd (false≢true (sym h))
credit_else NonQualifying b f h = refl

credit_volatility_else : (c : CreditClass) (b : Bucket) (f : Factor) → same_class (class_of f) (credit_risk_class c) ≡ false → as_credit_volatility c b (risk f) ≡ None
credit_volatility_else Qualifying b (factor.CreditVol i a t l) h = absurd (false≢true (sym h))
credit_volatility_else Qualifying b f h = refl
credit_volatility_else NonQualifying b (factor.CreditVolNonQ i a t l) h = absurd (false≢true (sym h))
credit_volatility_else NonQualifying b f h = refl

index_else : (f : Factor) → same_class (class_of f) class.CreditQ ≡ false → as_index (risk f) ≡ None
index_else (factor.BaseCorr i) h = absurd (false≢true (sym h))
index_else f h = refl

price_else : (c : PricedClass) (b : Bucket) (f : Factor) → same_class (class_of f) (priced_risk_class c) ≡ false → as_price c b (risk f) ≡ None
price_else Equities b (factor.Equity i a) h = absurd (false≢true (sym h))
price_else Equities b f h = refl
price_else Commodities b (factor.Commodity n a) h = absurd (false≢true (sym h))
price_else Commodities b f h = refl

price_volatility_else : (c : PricedClass) (b : Bucket) (f : Factor) → same_class (class_of f) (priced_risk_class c) ≡ false → as_price_volatility c b (risk f) ≡ None
price_volatility_else Equities b (factor.EquityVol i a t) h = absurd (false≢true (sym h))
price_volatility_else Equities b f h = refl
price_volatility_else Commodities b (factor.CommodityVol n a t) h = absurd (false≢true (sym h))
price_volatility_else Commodities b f h = refl

currency_else : (f : Factor) → same_class (class_of f) class.FX ≡ false → as_currency (risk f) ≡ None
currency_else (factor.Fx n) h = absurd (false≢true (sym h))
currency_else f h = refl

pair_else : (f : Factor) → same_class (class_of f) class.FX ≡ false → as_pair_volatility (risk f) ≡ None
pair_else (factor.FxVol pair t) h = absurd (false≢true (sym h))
pair_else f h = refl

-- ---- what the margin of a class is of

module _ (p : Params) where
  abbrev rate_parts_of : List (Amount RateIn) → List (Part (List ℕ))
  rate_parts_of rates =
      map (λ currency. record { at = currency; value = currency_value p currency (filter (λ a. same_name (a.of).currency currency) rates) })
      (different name_cmp (map (λ a. (a.of).currency) rates))

  abbrev vega_parts_of : List (Amount VolatilityIn) → List (Part (List ℕ))
  vega_parts_of amounts =
      map (λ currency. record { at = currency; value = currency_vega_value p currency (filter (λ a. same_name (a.of).currency currency) amounts) })
      (different name_cmp (map (λ a. (a.of).currency) amounts))

  abbrev curvature_parts_of : List (Amount VolatilityIn) → List (Part (List ℕ))
  curvature_parts_of amounts =
      map (λ currency. record { at = currency; value = currency_curvature_value p (filter (λ a. same_name (a.of).currency currency) amounts) })
      (different name_cmp (map (λ a. (a.of).currency) amounts))

  abbrev curvature_over_currencies : List (Part (List ℕ)) → ℤ
  curvature_over_currencies parts =
      up (curvature_part p.lambda_base parts (outer same_name (λ b c. combined (six p.ir.gamma) (six p.ir.gamma)) parts) *ℤ pos (10 ^ 8)) (p.ir.hvr *ℤ p.ir.hvr)

  module _ (ss rr : List Sensitivity) where
    rate_same : select as_rate ss ≡ select as_rate rr → select as_rate_volatility ss ≡ select as_rate_volatility rr → rate_margin p ss ≡ rate_margin p rr
    rate_same e v = λ i.
        outer same_name (across_currencies p) (rate_parts_of (e i))
        +ℤ outer same_name (across_currencies p) (vega_parts_of (v i))
        +ℤ curvature_over_currencies (curvature_parts_of (v i))

    credit_same : (c : CreditClass) → ((b : Bucket) → select (as_credit c b) ss ≡ select (as_credit c b) rr) → ((b : Bucket) → select (as_credit_volatility c b) ss ≡ select (as_credit_volatility c b) rr) → credit_margin p c ss ≡ credit_margin p c rr
    credit_same c e v = λ i.
        margin_over (listed_credit (credit_params p c)) (credit_params p c).gamma (map (λ b. record { at = (b.terms).id; value = credit_value b (e (b.terms).id i) }) (credit_params p c).buckets)
        +ℤ margin_over (listed_credit (credit_params p c)) (credit_params p c).gamma (map (λ b. record { at = (b.terms).id; value = credit_vega_value b (v (b.terms).id i) }) (credit_params p c).buckets)
        +ℤ curvature_over p.lambda_base (listed_credit (credit_params p c)) (credit_params p c).gamma (map (λ b. record { at = (b.terms).id; value = credit_curvature_value b (v (b.terms).id i) }) (credit_params p c).buckets)

    base_same : select as_index ss ≡ select as_index rr → base_margin p ss ≡ base_margin p rr
    base_same e = λ i. (base_value p (e i)).k

    price_same : (c : PricedClass) → ((b : Bucket) → select (as_price c b) ss ≡ select (as_price c b) rr) → ((b : Bucket) → select (as_price_volatility c b) ss ≡ select (as_price_volatility c b) rr) → price_margin p c ss ≡ price_margin p c rr
    price_same c e v = λ i.
        margin_over (listed_priced (priced_params p c)) (priced_params p c).gamma (map (λ b. record { at = (b.terms).id; value = price_value b (e (b.terms).id i) }) (priced_params p c).buckets)
        +ℤ margin_over (listed_priced (priced_params p c)) (priced_params p c).gamma (map (λ b. record { at = (b.terms).id; value = price_vega_value (priced_params p c).hvr b (v (b.terms).id i) }) (priced_params p c).buckets)
        +ℤ curvature_over p.lambda_base (listed_priced (priced_params p c)) (priced_params p c).gamma (map (λ b. record { at = (b.terms).id; value = price_curvature_value b (v (b.terms).id i) }) (priced_params p c).buckets)

    fx_same : select as_currency ss ≡ select as_currency rr → select as_pair_volatility ss ≡ select as_pair_volatility rr → fx_margin p ss ≡ fx_margin p rr
    fx_same e v = λ i.
        (fx_value p (filter (λ a. not (is_own_currency p a.of)) (e i))).k
        +ℤ (fx_vega_value p (v i)).k
        +ℤ curvature_part p.lambda_base (record { at = id.Single; value = fx_curvature_value p (v i) } ∷ []) (fx_curvature_value p (v i)).k

-- ---- so books that have the same factors in a class have its margin alike

another : (a b : Bool) → a ≡ true → (a && b) ≡ false → b ≡ false
another true b e h = h
another false b e h = absurd (false≢true e)

module _ (p : Params) (product : ProductClass) (f g : List (FactorKey × Holding)) where
  abbrev nets : List (FactorKey × Holding) → List Sensitivity
  nets fs = nets_in product fs

  module _ (c : RiskClass) (same : class_factors product c f ≡ class_factors product c g) where
    read : {A : Type 0} (sort : Risk → Option A) → ((x : Factor) → same_class (class_of x) c ≡ false → sort (risk x) ≡ None) → select sort (nets f) ≡ select sort (nets g)
    read sort none =
        let alone = select_alone sort product (is_of_class product c) (λ k e h. none k.factor (another (same_product k.product product) (same_class (class_of k.factor) c) e h)) in
        sym (alone f) ∙ ap (λ fs. select sort (nets fs)) same ∙ alone g

  by_class : (c : RiskClass) → class_factors product c f ≡ class_factors product c g → class_margin_of p (nets f) c ≡ class_margin_of p (nets g) c
  by_class class.IR e = rate_same p (nets f) (nets g) (read class.IR e as_rate rate_else) (read class.IR e as_rate_volatility rate_volatility_else)
  by_class class.CreditQ e =
      let credit = credit_same p (nets f) (nets g) Qualifying (λ b. read class.CreditQ e (as_credit Qualifying b) (credit_else Qualifying b)) (λ b. read class.CreditQ e (as_credit_volatility Qualifying b) (credit_volatility_else Qualifying b)) in
      let base = base_same p (nets f) (nets g) (read class.CreditQ e as_index index_else) in
      λ i. credit i +ℤ base i
  by_class class.CreditNonQ e =
      credit_same p (nets f) (nets g) NonQualifying (λ b. read class.CreditNonQ e (as_credit NonQualifying b) (credit_else NonQualifying b)) (λ b. read class.CreditNonQ e (as_credit_volatility NonQualifying b) (credit_volatility_else NonQualifying b))
  by_class class.Equity e =
      price_same p (nets f) (nets g) Equities (λ b. read class.Equity e (as_price Equities b) (price_else Equities b)) (λ b. read class.Equity e (as_price_volatility Equities b) (price_volatility_else Equities b))
  by_class class.Commodity e =
      price_same p (nets f) (nets g) Commodities (λ b. read class.Commodity e (as_price Commodities b) (price_else Commodities b)) (λ b. read class.Commodity e (as_price_volatility Commodities b) (price_volatility_else Commodities b))
  by_class class.FX e = fx_same p (nets f) (nets g) (read class.FX e as_currency currency_else) (read class.FX e as_pair_volatility pair_else)

pub margin_same : (p : Params) (product : ProductClass) (class : RiskClass) (f g : List (FactorKey × Holding)) → class_factors product class f ≡ class_factors product class g → class_margin_of p (nets_in product f) class ≡ class_margin_of p (nets_in product g) class
margin_same p product class f g e = by_class p product f g class e
