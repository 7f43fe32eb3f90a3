-- What the lines of factors name them by: type, qualifier, bucket, tenor, sub-curve and second label, as a row of them has.
use Rattle.std.specs.Prelude.{ℕ, List, [], ◌++◌}
use Rattle.measured_bucket.specs.SimmKinds.declared.bucket.Bucket.{Bucket}
use Rattle.measured_bucket.specs.SimmKinds.declared.kinds.RiskType.{RiskType}
use Rattle.measured_bucket.specs.SimmKinds.declared.kinds.RiskType.TheVariants as kind
use Rattle.measured_bucket.specs.SimmKinds.Factors.{bucket_id_of}
use Rattle.measured_bucket.specs.SimmKinds.Kinds.{kind_word, sub_word}
use Rattle.measured_bucket.specs.SimmKinds.Pair.{Pair}
use Rattle.measured_bucket.specs.SimmKinds.Tenors.{tenor_word, tenor_at}
use Rattle.measured_bucket.specs.SimmRules.Risks.{Rate, Curve, Inflation, Basis, RateVolatility, Of_rates, Of_inflation, CreditPoint}
use Rattle.measured_bucket.specs.SimmRules.declared.classes.CreditClass.{CreditClass}
use Rattle.measured_bucket.specs.SimmRules.declared.classes.CreditClass.TheVariants as credit
use Rattle.measured_bucket.specs.SimmRules.declared.classes.PricedClass.{PricedClass}
use Rattle.measured_bucket.specs.SimmRules.declared.classes.PricedClass.TheVariants as priced
use Rattle.breakdown_text.specs.FaultText.Fields.{field}
use Rattle.breakdown_text.specs.Factors.{parts}
use Rattle.explain_text.specs.Lines.{bucket_word}

abbrev pub name_fields : RiskType → List ℕ → List ℕ → List ℕ → List ℕ → List ℕ → List ℕ
name_fields kind qualifier bucket tenor sub label = field (kind_word kind) ++ parts qualifier bucket tenor sub label

-- ---- interest rates

abbrev pub rate_name : List ℕ → Rate → List ℕ
rate_name currency (Curve tenor sub) = name_fields kind.IrCurve currency currency (tenor_word tenor) (sub_word sub) []
rate_name currency Inflation = name_fields kind.Inflation currency currency [] [] []
rate_name currency Basis = name_fields kind.XccyBasis currency currency [] [] []

abbrev pub volatility_name : List ℕ → RateVolatility → List ℕ
volatility_name currency (Of_rates tenor) = name_fields kind.IrVol currency currency (tenor_word tenor) [] []
volatility_name currency (Of_inflation tenor) = name_fields kind.InflationVol currency currency (tenor_word tenor) [] []

-- ---- credit

-- the type of the points of a class of credit, and of their volatilities
abbrev pub point_type : CreditClass → RiskType
point_type credit.Qualifying = kind.CreditQ
point_type credit.NonQualifying = kind.CreditNonQ

abbrev pub point_volatility_type : CreditClass → RiskType
point_volatility_type credit.Qualifying = kind.CreditVol
point_volatility_type credit.NonQualifying = kind.CreditVolNonQ

abbrev pub point_name : RiskType → Bucket → CreditPoint → List ℕ
point_name kind bucket point =
    name_fields kind point.issuer (bucket_word (bucket_id_of bucket)) (tenor_word (tenor_at point.tenor)) [] point.label

abbrev pub index_name : List ℕ → List ℕ
index_name index = name_fields kind.BaseCorr index [] [] [] []

-- ---- equity and commodities: all tenors of a name are one factor

abbrev pub price_type : PricedClass → RiskType
price_type priced.Equities = kind.Equity
price_type priced.Commodities = kind.Commodity

abbrev pub price_volatility_type : PricedClass → RiskType
price_volatility_type priced.Equities = kind.EquityVol
price_volatility_type priced.Commodities = kind.CommodityVol

abbrev pub price_name : RiskType → Bucket → List ℕ → List ℕ
price_name kind bucket name = name_fields kind name (bucket_word (bucket_id_of bucket)) [] [] []

-- ---- foreign exchange: all tenors of a pair are one factor

abbrev pub currency_name : List ℕ → List ℕ
currency_name currency = name_fields kind.Fx currency [] [] [] []

abbrev pub pair_name : Pair → List ℕ
pair_name pair = name_fields kind.FxVol (pair.first ++ pair.second) [] [] [] []
