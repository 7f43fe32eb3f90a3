-- What the amounts to a factor weigh in the gross sizes of a book, in ten-thousandths: its risk weight on the delta side, its
-- volatility on the other. A bucket that the file doesn't list weighs nothing.
use Rattle.std.specs.Prelude.{Option, Some, None, ℤ, pos}
use Rattle.simm_params.specs.SimmKinds.declared.bucket.Bucket.{Bucket}
use Rattle.simm_params.specs.SimmKinds.declared.bucket.Bucket.TheVariants as bucket
use Rattle.simm_params.specs.SimmKinds.declared.factor.Factor.{Factor}
use Rattle.simm_params.specs.SimmKinds.declared.factor.Factor.TheVariants as factor
use Rattle.simm_params.specs.SimmRules.Params.{Params}
use Rattle.simm_params.specs.SimmRules.Risks.{Curve, Inflation, Basis}
use Rattle.simm_params.specs.SimmRules.declared.classes.CreditClass.{CreditClass}
use Rattle.simm_params.specs.SimmRules.declared.classes.CreditClass.TheVariants.{Qualifying, NonQualifying}
use Rattle.simm_params.specs.SimmRules.declared.classes.PricedClass.{PricedClass}
use Rattle.simm_params.specs.SimmRules.declared.classes.PricedClass.TheVariants.{Equities, Commodities}
use Rattle.simm_params.specs.SimmRules.Rates.{rate_weight}
use Rattle.simm_params.specs.SimmRules.Credit.{credit_params}
use Rattle.simm_params.specs.SimmRules.Priced.{priced_params}
use Rattle.simm_params.specs.SimmRules.ForeignExchange.{fx_weight, fx_sigma}
use Rattle.simm_params.specs.ListedBuckets.{credit_bucket_of, priced_bucket_of}

-- the rate of a bucket, where it is listed
abbrev pub rate_found : {X : Type 0} → (X → ℤ) → Option X → ℤ
rate_found rate None = pos 0
rate_found rate (Some b) = rate b

abbrev pub credit_weight : Params → CreditClass → Bucket → ℤ
credit_weight p class b = rate_found (λ c. (c.terms).weight) (credit_bucket_of (credit_params p class).buckets b)

abbrev pub credit_volatility : Params → CreditClass → Bucket → ℤ
credit_volatility p class b = rate_found (λ c. pos 10000) (credit_bucket_of (credit_params p class).buckets b)

abbrev pub price_weight : Params → PricedClass → Bucket → ℤ
price_weight p class b = rate_found (λ c. (c.terms).weight) (priced_bucket_of (priced_params p class).buckets b)

abbrev pub price_volatility : Params → PricedClass → Bucket → ℤ
price_volatility p class b = rate_found (λ c. c.sigma) (priced_bucket_of (priced_params p class).buckets b)

abbrev pub factor_weight : Params → Factor → ℤ
factor_weight p (factor.IrCurve c t s) = rate_weight p (record { currency = c; rate = Curve t s })
factor_weight p (factor.Inflation c) = rate_weight p (record { currency = c; rate = Inflation })
factor_weight p (factor.XccyBasis c) = rate_weight p (record { currency = c; rate = Basis })
factor_weight p (factor.IrVol c t) = pos 10000
factor_weight p (factor.InflationVol c t) = pos 10000
factor_weight p (factor.CreditQ i b t l) = credit_weight p Qualifying b
factor_weight p (factor.CreditVol i b t l) = credit_volatility p Qualifying b
factor_weight p (factor.CreditNonQ i b t l) = credit_weight p NonQualifying b
factor_weight p (factor.CreditVolNonQ i b t l) = credit_volatility p NonQualifying b
factor_weight p (factor.BaseCorr i) = p.base_weight
factor_weight p (factor.Equity i b) = price_weight p Equities b
factor_weight p (factor.EquityVol i b t) = price_volatility p Equities b
factor_weight p (factor.Commodity n b) = price_weight p Commodities (bucket.Number b)
factor_weight p (factor.CommodityVol n b t) = price_volatility p Commodities (bucket.Number b)
factor_weight p (factor.Fx c) = fx_weight p c
factor_weight p (factor.FxVol pair t) = fx_sigma p pair
