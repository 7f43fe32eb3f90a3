-- The buckets of a product class's volatilities of rates and inflation are its currencies.
use Rattle.std.proofs.Common.{◌≡◌, List, [], ◌∷◌, map, Option, Some, None, is_some, Bool, true, false, ◌&&◌, cond, refl, sym, ap, ◌∙◌}
use Rattle.std.specs.List.{filter}
use Rattle.std.proofs.lemmas.Simd.{map-map}
use Rattle.class_rates.specs.SimmKinds.declared.kinds.ProductClass.{ProductClass}
use Rattle.class_rates.specs.SimmKinds.declared.kinds.RiskClass.TheVariants as class
use Rattle.class_rates.specs.SimmKinds.declared.kinds.BucketId.{BucketId}
use Rattle.class_rates.specs.SimmKinds.declared.kinds.BucketId.TheVariants as id
use Rattle.class_rates.specs.SimmKinds.declared.factor.Factor.{Factor}
use Rattle.class_rates.specs.SimmKinds.declared.factor.Factor.TheVariants as factor
use Rattle.class_rates.specs.SimmKinds.declared.key.FactorKey.{FactorKey}
use Rattle.class_rates.specs.SimmKinds.Factors.{class_of, side_of, bucket_of}
use Rattle.class_rates.specs.SimmKinds.Order.{same_product, same_class, name_cmp, bucket_id_cmp}
use Rattle.class_rates.specs.SimmRules.Sums.{different}
use Rattle.class_rates.specs.SimmRules.Net.{Sensitivity}
use Rattle.class_rates.specs.SimmRules.Risks.{risk, Amount, select}
use Rattle.class_rates.specs.SimmRules.Rates.{VolatilityIn, as_rate_volatility, volatility_currencies}
use Rattle.class_rates.specs.FactorBook.declared.place.BookSide.TheVariants as side
use Rattle.class_rates.specs.FactorBook.declared.holding.Holding.{Holding}
use Rattle.class_rates.specs.FactorBook.Factors.{net_of}
use Rattle.class_rates.specs.FactorBook.Address.{book_side}
use Rattle.class_rates.specs.FactorBook.Address.{same_side}
use Rattle.class_rates.specs.FactorBook.Places.{is_key_on}
use Rattle.class_rates.proofs.FactorBook.Buckets.{own}
use Rattle.class_margin.specs.names_delta.Values.{nets_in}
use Rattle.class_rates.proofs.MeasuredBucket.Selected.{select_none, select_some}
use Rattle.class_margin.proofs.rates_delta.Lists.{different-map}

-- ---- volatilities among the factors

-- a factor is of volatility of interest rates where it is one of a currency
volatility_test : (f : Factor) → (same_class (class_of f) class.IR && same_side (book_side (side_of f)) side.Volatility) ≡ is_some (as_rate_volatility (risk f))
volatility_test (factor.IrCurve c t s) = refl
volatility_test (factor.Inflation c) = refl
volatility_test (factor.XccyBasis c) = refl
volatility_test (factor.IrVol c t) = refl
volatility_test (factor.InflationVol c t) = refl
volatility_test (factor.CreditQ i b t l) = refl
volatility_test (factor.CreditVol i b t l) = refl
volatility_test (factor.CreditNonQ i b t l) = refl
volatility_test (factor.CreditVolNonQ i b t l) = refl
volatility_test (factor.BaseCorr i) = refl
volatility_test (factor.Equity i b) = refl
volatility_test (factor.EquityVol i b t) = refl
volatility_test (factor.Commodity n b) = refl
volatility_test (factor.CommodityVol n b t) = refl
volatility_test (factor.Fx c) = refl
volatility_test (factor.FxVol p t) = refl

one_of : (v w : VolatilityIn) → Some v ≡ Some w → v ≡ w
one_of v w e = cc

volatility_bucket : (f : Factor) (v : VolatilityIn) → as_rate_volatility (risk f) ≡ Some v → bucket_of f ≡ id.Currency v.currency
volatility_bucket (factor.IrCurve c t s) v e = absurd (cc)
volatility_bucket (factor.Inflation c) v e = absurd (cc)
volatility_bucket (factor.XccyBasis c) v e = absurd (cc)
volatility_bucket (factor.IrVol c t) v e = ap (λ (x : VolatilityIn). id.Currency x.currency) (one_of _ v e)
volatility_bucket (factor.InflationVol c t) v e = ap (λ (x : VolatilityIn). id.Currency x.currency) (one_of _ v e)
volatility_bucket (factor.CreditQ i b t l) v e = absurd (cc)
volatility_bucket (factor.CreditVol i b t l) v e = absurd (cc)
volatility_bucket (factor.CreditNonQ i b t l) v e = absurd (cc)
volatility_bucket (factor.CreditVolNonQ i b t l) v e = absurd (cc)
volatility_bucket (factor.BaseCorr i) v e = absurd (cc)
volatility_bucket (factor.Equity i b) v e = absurd (cc)
volatility_bucket (factor.EquityVol i b t) v e = absurd (cc)
volatility_bucket (factor.Commodity n b) v e = absurd (cc)
volatility_bucket (factor.CommodityVol n b t) v e = absurd (cc)
volatility_bucket (factor.Fx c) v e = absurd (cc)
volatility_bucket (factor.FxVol p t) v e = absurd (cc)

module _ (product : ProductClass) where
  abbrev bucket_in : FactorKey × Holding → BucketId
  bucket_in f = bucket_of f.0.factor

  abbrev currency_in : Amount VolatilityIn → BucketId
  currency_in a = id.Currency (a.of).currency

  abbrev kept : List (FactorKey × Holding) → List (FactorKey × Holding)
  kept fs = filter (λ f. is_key_on product class.IR side.Volatility f.0) fs

  none_more : (f : FactorKey × Holding) (fs : List (FactorKey × Holding)) (ss : List Sensitivity) (t : Bool) → as_rate_volatility (risk f.0.factor) ≡ None → map currency_in (select as_rate_volatility ss) ≡ map bucket_in fs
      → map currency_in (select as_rate_volatility (cond t (net_of f ∷ ss) ss)) ≡ map bucket_in (cond (t && false) (f ∷ fs) fs)
  none_more f fs ss true e i = ap (map currency_in) (select_none as_rate_volatility (net_of f) ss e) ∙ i
  none_more f fs ss false e i = i

  some_more : (f : FactorKey × Holding) (fs : List (FactorKey × Holding)) (ss : List Sensitivity) (v : VolatilityIn) (t : Bool) → as_rate_volatility (risk f.0.factor) ≡ Some v → map currency_in (select as_rate_volatility ss) ≡ map bucket_in fs
      → map currency_in (select as_rate_volatility (cond t (net_of f ∷ ss) ss)) ≡ map bucket_in (cond (t && true) (f ∷ fs) fs)
  some_more f fs ss v true e i =
      ap (map currency_in) (select_some as_rate_volatility (net_of f) ss v e) ∙ ap (λ rest. id.Currency v.currency ∷ rest) i ∙ ap (λ b. b ∷ map bucket_in fs) (sym (volatility_bucket f.0.factor v e))
  some_more f fs ss v false e i = i

  all_are : (fs : List (FactorKey × Holding)) → map currency_in (select as_rate_volatility (nets_in product fs)) ≡ map bucket_in (kept fs)
  all_are [] = refl
  all_are (f ∷ fs) = by (as_rate_volatility (risk f.0.factor)) refl (all_are fs)
    where
      tested : (o : Option VolatilityIn) → as_rate_volatility (risk f.0.factor) ≡ o → cond (same_product f.0.product product && is_some o) (f ∷ kept fs) (kept fs) ≡ kept (f ∷ fs)
      tested o e = ap (λ t. cond (same_product f.0.product product && t) (f ∷ kept fs) (kept fs)) (sym (volatility_test f.0.factor ∙ ap is_some e))

      by : (o : Option VolatilityIn) → as_rate_volatility (risk f.0.factor) ≡ o → map currency_in (select as_rate_volatility (nets_in product fs)) ≡ map bucket_in (kept fs) → map currency_in (select as_rate_volatility (nets_in product (f ∷ fs))) ≡ map bucket_in (kept (f ∷ fs))
      by None e i = none_more f (kept fs) (nets_in product fs) (same_product f.0.product product) e i ∙ ap (map bucket_in) (tested None e)
      by (Some v) e i = some_more f (kept fs) (nets_in product fs) v (same_product f.0.product product) e i ∙ ap (map bucket_in) (tested (Some v) e)

  pub buckets_are : (fs : List (FactorKey × Holding)) → different bucket_id_cmp (map (λ (f : FactorKey × Holding). bucket_of f.0.factor) (own product class.IR side.Volatility fs)) ≡ map id.Currency (volatility_currencies (nets_in product fs))
  buckets_are fs =
      sym (different-map name_cmp bucket_id_cmp id.Currency (λ a b. refl) (map (λ (a : Amount VolatilityIn). (a.of).currency) (select as_rate_volatility (nets_in product fs)))
      ∙ ap (different bucket_id_cmp) (map-map id.Currency (λ (a : Amount VolatilityIn). (a.of).currency) (select as_rate_volatility (nets_in product fs)) ∙ all_are fs))
