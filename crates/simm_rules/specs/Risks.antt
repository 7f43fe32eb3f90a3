-- What the factors are risks of, by class and side: every factor of the standard's table is one of these.
-- (ISDA SIMM methodology, definition of the risk factors.)
use Rattle.std.specs.Prelude.{ℕ, List, [], ◌∷◌, Option, Some, None, ℤ}
use Rattle.std.specs.List.{flat_map}
use Rattle.simm_kinds.specs.declared.kinds.Tenor.{Tenor}
use Rattle.simm_kinds.specs.declared.kinds.SubCurve.{SubCurve}
use Rattle.simm_kinds.specs.declared.bucket.Bucket.{Bucket}
use Rattle.simm_kinds.specs.declared.bucket.Bucket.TheVariants as bucket
use Rattle.simm_kinds.specs.declared.credit_tenor.CreditTenor.{CreditTenor}
use Rattle.simm_kinds.specs.declared.factor.Factor.{Factor}
use Rattle.simm_kinds.specs.declared.factor.Factor.TheVariants as factor
use Rattle.simm_kinds.specs.Pair.{Pair}
use Rattle.simm_rules.specs.declared.classes.CreditClass.{CreditClass}
use Rattle.simm_rules.specs.declared.classes.CreditClass.TheVariants.{Qualifying, NonQualifying}
use Rattle.simm_rules.specs.declared.classes.PricedClass.{PricedClass}
use Rattle.simm_rules.specs.declared.classes.PricedClass.TheVariants.{Equities, Commodities}
use Rattle.simm_rules.specs.Net.{Sensitivity}

-- a rate of a currency: a point of a curve, inflation, or the basis to other currencies
pub data Rate : Type 0 where
  Curve : (tenor : Tenor) → (sub : SubCurve) → Rate
  Inflation : Rate
  Basis : Rate

-- a volatility of a currency: of its rates or of its inflation, at a tenor
pub data RateVolatility : Type 0 where
  Of_rates : (tenor : Tenor) → RateVolatility
  Of_inflation : (tenor : Tenor) → RateVolatility

-- a point of an issuer's credit curve
pub record CreditPoint : Type 0 where
  pub issuer : List ℕ
  pub tenor : CreditTenor
  pub label : List ℕ

pub data Risk : Type 0 where
  Of_rate : (currency : List ℕ) → Rate → Risk
  Of_rate_volatility : (currency : List ℕ) → RateVolatility → Risk
  Of_credit : CreditClass → Bucket → CreditPoint → Risk
  Of_credit_volatility : CreditClass → Bucket → CreditPoint → Risk
  Of_base_correlation : (index : List ℕ) → Risk
  Of_price : PricedClass → Bucket → (name : List ℕ) → Risk
  Of_price_volatility : PricedClass → Bucket → (name : List ℕ) → Tenor → Risk
  Of_currency : (currency : List ℕ) → Risk
  Of_pair_volatility : Pair → Tenor → Risk

abbrev pub credit_point : List ℕ → CreditTenor → List ℕ → CreditPoint
credit_point issuer tenor label = record { issuer = issuer; tenor = tenor; label = label }

abbrev pub risk : Factor → Risk
risk (factor.IrCurve currency tenor sub) = Of_rate currency (Curve tenor sub)
risk (factor.Inflation currency) = Of_rate currency Inflation
risk (factor.XccyBasis currency) = Of_rate currency Basis
risk (factor.IrVol currency tenor) = Of_rate_volatility currency (Of_rates tenor)
risk (factor.InflationVol currency tenor) = Of_rate_volatility currency (Of_inflation tenor)
risk (factor.CreditQ issuer b tenor label) = Of_credit Qualifying b (credit_point issuer tenor label)
risk (factor.CreditVol issuer b tenor label) = Of_credit_volatility Qualifying b (credit_point issuer tenor label)
risk (factor.CreditNonQ issuer b tenor label) = Of_credit NonQualifying b (credit_point issuer tenor label)
risk (factor.CreditVolNonQ issuer b tenor label) = Of_credit_volatility NonQualifying b (credit_point issuer tenor label)
risk (factor.BaseCorr index) = Of_base_correlation index
risk (factor.Equity issuer b) = Of_price Equities b issuer
risk (factor.EquityVol issuer b tenor) = Of_price_volatility Equities b issuer tenor
risk (factor.Commodity name b) = Of_price Commodities (bucket.Number b) name
risk (factor.CommodityVol name b tenor) = Of_price_volatility Commodities (bucket.Number b) name tenor
risk (factor.Fx currency) = Of_currency currency
risk (factor.FxVol pair tenor) = Of_pair_volatility pair tenor

-- what an amount is to, and the amount, in cents
pub record Amount (A : Type 0) : Type 0 where
  pub of : A
  pub amount : ℤ

-- the sensitivities to risks of one sort, in their order
abbrev pub select : {A : Type 0} → (Risk → Option A) → List Sensitivity → List (Amount A)
select sort ss = flat_map (λ s. chosen (sort (risk s.key.factor)) s.amount) ss
  where
    chosen : {A : Type 0} → Option A → ℤ → List (Amount A)
    chosen None amount = []
    chosen (Some x) amount = record { of = x; amount = amount } ∷ []
