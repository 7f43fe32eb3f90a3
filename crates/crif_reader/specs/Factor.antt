-- The risk factor of a record: each risk type reads the parts that it has, in the order qualifier, bucket, first label, second
-- label; the other fields are not read.
use Rattle.std.specs.Prelude.{ℕ, List, ok_or, Result, Ok, Err, is_none, if◌then◌else◌}
use Rattle.crif_records.specs.SimmKinds.declared.kinds.RiskType.{RiskType}
use Rattle.crif_records.specs.SimmKinds.declared.kinds.RiskType.TheVariants as kind
use Rattle.crif_records.specs.SimmKinds.declared.kinds.Tenor.{Tenor}
use Rattle.crif_records.specs.SimmKinds.declared.kinds.SubCurve.{SubCurve}
use Rattle.crif_records.specs.SimmKinds.declared.credit_tenor.CreditTenor.{CreditTenor}
use Rattle.crif_records.specs.SimmKinds.declared.bucket.Bucket.{Bucket}
use Rattle.crif_records.specs.SimmKinds.declared.factor.Factor.{Factor}
use Rattle.crif_records.specs.SimmKinds.declared.factor.Factor.TheVariants as factor
use Rattle.crif_records.specs.SimmKinds.Bucket.{bucket_named}
use Rattle.crif_records.specs.SimmKinds.BucketNumber.{bucket_number_named}
use Rattle.crif_records.specs.SimmKinds.Currency.{currency_text}
use Rattle.crif_records.specs.SimmKinds.Kinds.{sub_named}
use Rattle.crif_records.specs.SimmKinds.NameText.{is_full_name, name_fault}
use Rattle.crif_records.specs.SimmKinds.Pair.{Pair, pair_named}
use Rattle.crif_records.specs.SimmKinds.Tenors.{tenor_named, credit_tenor_named}
use Rattle.crif_reader.specs.declared.fault.RowFault.{RowFault}
use Rattle.crif_reader.specs.declared.fault.RowFault.TheVariants as fault
use Rattle.crif_reader.specs.declared.factor.CreditPoint.{CreditPoint}
use Rattle.crif_records.specs.Binds.{◌>>=◌}
use Rattle.crif_reader.specs.Fields.{Texts}

-- ---- the parts, each with its fault

-- a name that isn't empty, and one that may be
abbrev pub full_name_of : RowFault → List ℕ → Result (List ℕ) RowFault
full_name_of f text = if is_full_name text then Ok text else Err f

abbrev pub name_of : RowFault → List ℕ → Result (List ℕ) RowFault
name_of f text = if is_none (name_fault text) then Ok text else Err f

abbrev pub currency_of : Texts → Result (List ℕ) RowFault
currency_of t = ok_or (currency_text t.qualifier) fault.Qualifier

abbrev pub pair_of : Texts → Result Pair RowFault
pair_of t = ok_or (pair_named t.qualifier) fault.Qualifier

abbrev pub bucket_of : Texts → Result Bucket RowFault
bucket_of t = ok_or (bucket_named t.bucket) fault.Bucket

abbrev pub bucket_number_of : Texts → Result ℕ RowFault
bucket_number_of t = ok_or (bucket_number_named t.bucket) fault.Bucket

abbrev pub tenor_of : Texts → Result Tenor RowFault
tenor_of t = ok_or (tenor_named t.label1) fault.Label1

abbrev pub credit_tenor_of : Texts → Result CreditTenor RowFault
credit_tenor_of t = ok_or (credit_tenor_named t.label1) fault.Label1

abbrev pub sub_of : Texts → Result SubCurve RowFault
sub_of t = ok_or (sub_named t.label2) fault.Label2

-- ---- interest rates: the currency, a tenor, and for a curve the sub-curve

unfoldable pub ir_curve_of : Texts → Result Factor RowFault
ir_curve_of t = do
  currency ← currency_of t
  tenor ← tenor_of t
  sub ← sub_of t
  Ok (factor.IrCurve currency tenor sub)

unfoldable pub ir_vol_of : Texts → Result Factor RowFault
ir_vol_of t = do
  currency ← currency_of t
  tenor ← tenor_of t
  Ok (factor.IrVol currency tenor)

unfoldable pub inflation_vol_of : Texts → Result Factor RowFault
inflation_vol_of t = do
  currency ← currency_of t
  tenor ← tenor_of t
  Ok (factor.InflationVol currency tenor)

-- ---- credit: the issuer, its bucket, a credit tenor, and a name that may be empty

unfoldable pub credit_point_of : Texts → Result CreditPoint RowFault
credit_point_of t = do
  issuer ← full_name_of fault.Qualifier t.qualifier
  bucket ← bucket_of t
  tenor ← credit_tenor_of t
  label2 ← name_of fault.Label2 t.label2
  Ok (record { issuer = issuer; bucket = bucket; tenor = tenor; label2 = label2 })

abbrev pub credit_by : (CreditPoint → Factor) → Texts → Result Factor RowFault
credit_by make t = do
  point ← credit_point_of t
  Ok (make point)

-- ---- equity: the issuer and its bucket; commodity: the name and its number; their volatilities: a tenor

unfoldable pub equity_of : Texts → Result Factor RowFault
equity_of t = do
  issuer ← full_name_of fault.Qualifier t.qualifier
  bucket ← bucket_of t
  Ok (factor.Equity issuer bucket)

unfoldable pub equity_vol_of : Texts → Result Factor RowFault
equity_vol_of t = do
  issuer ← full_name_of fault.Qualifier t.qualifier
  bucket ← bucket_of t
  tenor ← tenor_of t
  Ok (factor.EquityVol issuer bucket tenor)

unfoldable pub commodity_of : Texts → Result Factor RowFault
commodity_of t = do
  name ← full_name_of fault.Qualifier t.qualifier
  bucket ← bucket_number_of t
  Ok (factor.Commodity name bucket)

unfoldable pub commodity_vol_of : Texts → Result Factor RowFault
commodity_vol_of t = do
  name ← full_name_of fault.Qualifier t.qualifier
  bucket ← bucket_number_of t
  tenor ← tenor_of t
  Ok (factor.CommodityVol name bucket tenor)

-- ---- exchange rates: the currency, and for a volatility the pair and a tenor

unfoldable pub fx_vol_of : Texts → Result Factor RowFault
fx_vol_of t = do
  pair ← pair_of t
  tenor ← tenor_of t
  Ok (factor.FxVol pair tenor)

abbrev pub currency_by : (List ℕ → Factor) → Texts → Result Factor RowFault
currency_by make t = do
  currency ← currency_of t
  Ok (make currency)

abbrev pub index_by : (List ℕ → Factor) → Texts → Result Factor RowFault
index_by make t = do
  index ← full_name_of fault.Qualifier t.qualifier
  Ok (make index)

-- ---- the table; add-ons and present values are sensitivities to no factor

abbrev pub factor_of : RiskType → Texts → Result Factor RowFault
factor_of kind.IrCurve t = ir_curve_of t
factor_of kind.Inflation t = currency_by (λ c. factor.Inflation c) t
factor_of kind.XccyBasis t = currency_by (λ c. factor.XccyBasis c) t
factor_of kind.IrVol t = ir_vol_of t
factor_of kind.InflationVol t = inflation_vol_of t
factor_of kind.CreditQ t = credit_by (λ p. factor.CreditQ p.issuer p.bucket p.tenor p.label2) t
factor_of kind.CreditVol t = credit_by (λ p. factor.CreditVol p.issuer p.bucket p.tenor p.label2) t
factor_of kind.CreditNonQ t = credit_by (λ p. factor.CreditNonQ p.issuer p.bucket p.tenor p.label2) t
factor_of kind.CreditVolNonQ t = credit_by (λ p. factor.CreditVolNonQ p.issuer p.bucket p.tenor p.label2) t
factor_of kind.BaseCorr t = index_by (λ i. factor.BaseCorr i) t
factor_of kind.Equity t = equity_of t
factor_of kind.EquityVol t = equity_vol_of t
factor_of kind.Commodity t = commodity_of t
factor_of kind.CommodityVol t = commodity_vol_of t
factor_of kind.Fx t = currency_by (λ c. factor.Fx c) t
factor_of kind.FxVol t = fx_vol_of t
factor_of kind.Notional t = Err fault.RiskType
factor_of kind.AddOnNotionalFactor t = Err fault.RiskType
factor_of kind.AddOnFixedAmount t = Err fault.RiskType
factor_of kind.ProductClassMultiplier t = Err fault.RiskType
factor_of kind.Pv t = Err fault.RiskType
