-- The buckets of a product class's rates are its currencies.
use Rattle.std.proofs.Common.{◌≡◌, List, [], ◌∷◌, map, Option, Some, None, is_some, Bool, true, false, ◌&&◌, cond, refl, sym, ap, ◌∙◌}
use Rattle.std.specs.List.{filter}
use Rattle.std.proofs.lemmas.Simd.{map-map}
use Rattle.class_rates.specs.SimmKinds.declared.kinds.ProductClass.{ProductClass}
use Rattle.class_rates.specs.SimmKinds.declared.kinds.RiskClass.TheVariants as class
use Rattle.class_rates.specs.SimmKinds.declared.kinds.BucketId.{BucketId}
use Rattle.class_rates.specs.SimmKinds.declared.kinds.BucketId.TheVariants as id
use Rattle.class_rates.specs.SimmKinds.declared.factor.Factor.{Factor}
use Rattle.class_rates.specs.SimmKinds.declared.factor.Factor.TheVariants as factor
use Rattle.class_rates.specs.SimmKinds.declared.key.FactorKey.{FactorKey}
use Rattle.class_rates.specs.SimmKinds.Factors.{class_of, side_of, bucket_of}
use Rattle.class_rates.specs.SimmKinds.Order.{same_product, same_class, name_cmp, bucket_id_cmp}
use Rattle.class_rates.specs.SimmRules.Sums.{different}
use Rattle.class_rates.specs.SimmRules.Net.{Sensitivity}
use Rattle.class_rates.specs.SimmRules.Risks.{risk, Amount, select}
use Rattle.class_rates.specs.SimmRules.Rates.{RateIn, as_rate}
use Rattle.class_rates.specs.FactorBook.declared.place.BookSide.TheVariants as side
use Rattle.class_rates.specs.FactorBook.declared.holding.Holding.{Holding}
use Rattle.class_rates.specs.FactorBook.Factors.{net_of}
use Rattle.class_rates.specs.FactorBook.Address.{book_side}
use Rattle.class_rates.specs.FactorBook.Address.{same_side}
use Rattle.class_rates.specs.FactorBook.Places.{is_key_on}
use Rattle.class_rates.proofs.FactorBook.Buckets.{own}
use Rattle.class_margin.specs.names_delta.Values.{nets_in}
use Rattle.class_margin.specs.rates_delta.Parts.{currencies_of}
use Rattle.class_rates.proofs.MeasuredBucket.Selected.{select_none, select_some}
use Rattle.class_margin.proofs.rates_delta.Lists.{different-map}

-- ---- rates among the factors

pub one_of : (r s : RateIn) → Some r ≡ Some s → r ≡ s
one_of r s e = cc

-- a factor is of delta of interest rates where it is of a rate
rate_test : (f : Factor) → (same_class (class_of f) class.IR && same_side (book_side (side_of f)) side.Delta) ≡ is_some (as_rate (risk f))
rate_test (factor.IrCurve c t s) = refl
rate_test (factor.Inflation c) = refl
rate_test (factor.XccyBasis c) = refl
rate_test (factor.IrVol c t) = refl
rate_test (factor.InflationVol c t) = refl
rate_test (factor.CreditQ i b t l) = refl
rate_test (factor.CreditVol i b t l) = refl
rate_test (factor.CreditNonQ i b t l) = refl
rate_test (factor.CreditVolNonQ i b t l) = refl
rate_test (factor.BaseCorr i) = refl
rate_test (factor.Equity i b) = refl
rate_test (factor.EquityVol i b t) = refl
rate_test (factor.Commodity n b) = refl
rate_test (factor.CommodityVol n b t) = refl
rate_test (factor.Fx c) = refl
rate_test (factor.FxVol p t) = refl

rate_bucket : (f : Factor) (r : RateIn) → as_rate (risk f) ≡ Some r → bucket_of f ≡ id.Currency r.currency
rate_bucket (factor.IrCurve c t s) r e = ap (λ (x : RateIn). id.Currency x.currency) (one_of _ r e)
rate_bucket (factor.Inflation c) r e = ap (λ (x : RateIn). id.Currency x.currency) (one_of _ r e)
rate_bucket (factor.XccyBasis c) r e = ap (λ (x : RateIn). id.Currency x.currency) (one_of _ r e)
rate_bucket (factor.IrVol c t) r e = absurd (cc)
rate_bucket (factor.InflationVol c t) r e = absurd (cc)
rate_bucket (factor.CreditQ i b t l) r e = absurd (cc)
rate_bucket (factor.CreditVol i b t l) r e = absurd (cc)
rate_bucket (factor.CreditNonQ i b t l) r e = absurd (cc)
rate_bucket (factor.CreditVolNonQ i b t l) r e = absurd (cc)
rate_bucket (factor.BaseCorr i) r e = absurd (cc)
rate_bucket (factor.Equity i b) r e = absurd (cc)
rate_bucket (factor.EquityVol i b t) r e = absurd (cc)
rate_bucket (factor.Commodity n b) r e = absurd (cc)
rate_bucket (factor.CommodityVol n b t) r e = absurd (cc)
rate_bucket (factor.Fx c) r e = absurd (cc)
rate_bucket (factor.FxVol p t) r e = absurd (cc)

module _ (product : ProductClass) where
  abbrev bucket_in : FactorKey × Holding → BucketId
  bucket_in f = bucket_of f.0.factor

  abbrev currency_in : Amount RateIn → BucketId
  currency_in a = id.Currency (a.of).currency

  abbrev kept : List (FactorKey × Holding) → List (FactorKey × Holding)
  kept fs = filter (λ f. is_key_on product class.IR side.Delta f.0) fs

  none_more : (f : FactorKey × Holding) (fs : List (FactorKey × Holding)) (ss : List Sensitivity) (t : Bool) → as_rate (risk f.0.factor) ≡ None → map currency_in (select as_rate ss) ≡ map bucket_in fs
      → map currency_in (select as_rate (cond t (net_of f ∷ ss) ss)) ≡ map bucket_in (cond (t && false) (f ∷ fs) fs)
  none_more f fs ss true e i = ap (map currency_in) (select_none as_rate (net_of f) ss e) ∙ i
  none_more f fs ss false e i = i

  some_more : (f : FactorKey × Holding) (fs : List (FactorKey × Holding)) (ss : List Sensitivity) (r : RateIn) (t : Bool) → as_rate (risk f.0.factor) ≡ Some r → map currency_in (select as_rate ss) ≡ map bucket_in fs
      → map currency_in (select as_rate (cond t (net_of f ∷ ss) ss)) ≡ map bucket_in (cond (t && true) (f ∷ fs) fs)
  some_more f fs ss r true e i =
      ap (map currency_in) (select_some as_rate (net_of f) ss r e) ∙ ap (λ rest. id.Currency r.currency ∷ rest) i ∙ ap (λ b. b ∷ map bucket_in fs) (sym (rate_bucket f.0.factor r e))
  some_more f fs ss r false e i = i

  all_are : (fs : List (FactorKey × Holding)) → map currency_in (select as_rate (nets_in product fs)) ≡ map bucket_in (kept fs)
  all_are [] = refl
  all_are (f ∷ fs) = by (as_rate (risk f.0.factor)) refl (all_are fs)
    where
      tested : (o : Option RateIn) → as_rate (risk f.0.factor) ≡ o → cond (same_product f.0.product product && is_some o) (f ∷ kept fs) (kept fs) ≡ kept (f ∷ fs)
      tested o e = ap (λ t. cond (same_product f.0.product product && t) (f ∷ kept fs) (kept fs)) (sym (rate_test f.0.factor ∙ ap is_some e))

      by : (o : Option RateIn) → as_rate (risk f.0.factor) ≡ o → map currency_in (select as_rate (nets_in product fs)) ≡ map bucket_in (kept fs) → map currency_in (select as_rate (nets_in product (f ∷ fs))) ≡ map bucket_in (kept (f ∷ fs))
      by None e i = none_more f (kept fs) (nets_in product fs) (same_product f.0.product product) e i ∙ ap (map bucket_in) (tested None e)
      by (Some r) e i = some_more f (kept fs) (nets_in product fs) r (same_product f.0.product product) e i ∙ ap (map bucket_in) (tested (Some r) e)

  pub buckets_are : (fs : List (FactorKey × Holding)) → different bucket_id_cmp (map (λ (f : FactorKey × Holding). bucket_of f.0.factor) (own product class.IR side.Delta fs)) ≡ map id.Currency (currencies_of (nets_in product fs))
  buckets_are fs =
      sym (different-map name_cmp bucket_id_cmp id.Currency (λ a b. refl) (map (λ (a : Amount RateIn). (a.of).currency) (select as_rate (nets_in product fs)))
      ∙ ap (different bucket_id_cmp) (map-map id.Currency (λ (a : Amount RateIn). (a.of).currency) (select as_rate (nets_in product fs)) ∙ all_are fs))
