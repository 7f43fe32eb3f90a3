-- The row of a record: its tests in order, the first fault ends them.
use Rattle.std.specs.Prelude.{ℕ, List, [], length, Bool, true, false, ◌&&◌, nat_lt, ℤ, pos, int_le, codes, ok_or, Option, Some, None, Result, Ok, Err, if◌then◌else◌}
use Rattle.std.specs.Result.{result_map_both}
use Rattle.crif_records.specs.SimmKinds.MhUnits.declared.quantities.Cents.{Cents}
use Rattle.crif_records.specs.SimmKinds.MhUnits.declared.quantities.Rate4.{Rate4}
use Rattle.crif_records.specs.SimmKinds.MhUnits.Numeral.{cents_of, rate4_of}
use Rattle.crif_records.specs.SimmKinds.declared.kinds.ProductClass.{ProductClass}
use Rattle.crif_records.specs.SimmKinds.declared.kinds.RiskType.{RiskType}
use Rattle.crif_records.specs.SimmKinds.declared.kinds.RiskType.TheVariants as kind
use Rattle.crif_records.specs.SimmKinds.declared.row.CrifRow.{CrifRow}
use Rattle.crif_records.specs.SimmKinds.declared.row.CrifRow.TheVariants as row
use Rattle.crif_records.specs.SimmKinds.Kinds.{kind_named, product_named}
use Rattle.crif_records.specs.SimmKinds.Words.{is_word}
use Rattle.crif_records.specs.Fields.{usd_text}
use Rattle.crif_reader.specs.declared.columns.Columns.{Columns}
use Rattle.crif_reader.specs.declared.fault.RowFault.{RowFault}
use Rattle.crif_reader.specs.declared.fault.RowFault.TheVariants as fault
use Rattle.crif_records.specs.Binds.{◌>>=◌}
use Rattle.crif_reader.specs.Fields.{Texts, texts_of, are_text}
use Rattle.crif_reader.specs.Factor.{factor_of, full_name_of, name_of}

-- a row, and the trade that it belongs to: parameters of add-ons belong to the trade without a name
pub record Entry : Type 0 where
  pub trade : List ℕ
  pub row : CrifRow

-- ---- parts of all rows

abbrev pub trade_of : Texts → Result (List ℕ) RowFault
trade_of t = full_name_of fault.Trade t.trade_id

abbrev pub product_of : Texts → Result ProductClass RowFault
product_of t = ok_or (product_named t.product_class) fault.ProductClass

-- AmountUSD; where that is empty, an Amount in USD
abbrev pub amount_text : Texts → List ℕ
amount_text t = usd_text t.amount_usd t.amount_currency t.amount

-- in cents
abbrev pub amount_of : Texts → Result Cents RowFault
amount_of t = result_map_both (λ c. c) (λ e. fault.Amount e) (cents_of (amount_text t))

-- a factor or a multiplier, in ten-thousandths
abbrev pub rate_of : Texts → Result Rate4 RowFault
rate_of t = result_map_both (λ r. r) (λ e. fault.Amount e) (rate4_of t.amount)

-- ---- the rows

unfoldable pub sensitivity_of : RiskType → Texts → Result Entry RowFault
sensitivity_of kind t = do
  trade ← trade_of t
  product ← product_of t
  factor ← factor_of kind t
  amount ← amount_of t
  Ok (record { trade = trade; row = row.Sensitivity (record { product = product; factor = factor }) amount })

unfoldable pub notional_of : Texts → Result Entry RowFault
notional_of t = do
  trade ← trade_of t
  qualifier ← name_of fault.Qualifier t.qualifier
  amount ← amount_of t
  Ok (record { trade = trade; row = row.Notional qualifier amount })

-- what a parameter gives where its value lies between these two
abbrev pub if_within : ℤ → ℤ → ℤ → Entry → Result Entry RowFault
if_within least most value entry = if int_le least value && int_le value most then Ok entry else Err (fault.ParamRange value)

-- not below 0
unfoldable pub fixed_amount_of : Texts → Result Entry RowFault
fixed_amount_of t = do
  amount ← amount_of t
  if int_le (pos 0) amount.0 then Ok (record { trade = []; row = row.FixedAmount amount }) else Err (fault.ParamRange amount.0)

-- 0 to 100
unfoldable pub notional_factor_of : Texts → Result Entry RowFault
notional_factor_of t = do
  qualifier ← full_name_of fault.Qualifier t.qualifier
  factor ← rate_of t
  if_within (pos 0) (pos 1000000) factor.0 (record { trade = []; row = row.NotionalFactor qualifier factor })

-- 1 to 10
unfoldable pub multiplier_of : Texts → Result Entry RowFault
multiplier_of t = do
  product ← ok_or (product_named t.qualifier) fault.Qualifier
  factor ← rate_of t
  if_within (pos 10000) (pos 100000) factor.0 (record { trade = []; row = row.Multiplier product factor })

-- by risk type; present values have no row
abbrev pub entry_of : RiskType → Texts → Result Entry RowFault
entry_of kind.IrCurve t = sensitivity_of kind.IrCurve t
entry_of kind.Inflation t = sensitivity_of kind.Inflation t
entry_of kind.XccyBasis t = sensitivity_of kind.XccyBasis t
entry_of kind.IrVol t = sensitivity_of kind.IrVol t
entry_of kind.InflationVol t = sensitivity_of kind.InflationVol t
entry_of kind.CreditQ t = sensitivity_of kind.CreditQ t
entry_of kind.CreditVol t = sensitivity_of kind.CreditVol t
entry_of kind.CreditNonQ t = sensitivity_of kind.CreditNonQ t
entry_of kind.CreditVolNonQ t = sensitivity_of kind.CreditVolNonQ t
entry_of kind.BaseCorr t = sensitivity_of kind.BaseCorr t
entry_of kind.Equity t = sensitivity_of kind.Equity t
entry_of kind.EquityVol t = sensitivity_of kind.EquityVol t
entry_of kind.Commodity t = sensitivity_of kind.Commodity t
entry_of kind.CommodityVol t = sensitivity_of kind.CommodityVol t
entry_of kind.Fx t = sensitivity_of kind.Fx t
entry_of kind.FxVol t = sensitivity_of kind.FxVol t
entry_of kind.Notional t = notional_of t
entry_of kind.AddOnNotionalFactor t = notional_factor_of t
entry_of kind.AddOnFixedAmount t = fixed_amount_of t
entry_of kind.ProductClassMultiplier t = multiplier_of t
entry_of kind.Pv t = Err fault.RiskType

-- ---- the way of a record

abbrev pub is_present_value : RiskType → Bool
is_present_value kind.IrCurve = false
is_present_value kind.Inflation = false
is_present_value kind.XccyBasis = false
is_present_value kind.IrVol = false
is_present_value kind.InflationVol = false
is_present_value kind.CreditQ = false
is_present_value kind.CreditVol = false
is_present_value kind.CreditNonQ = false
is_present_value kind.CreditVolNonQ = false
is_present_value kind.BaseCorr = false
is_present_value kind.Equity = false
is_present_value kind.EquityVol = false
is_present_value kind.Commodity = false
is_present_value kind.CommodityVol = false
is_present_value kind.Fx = false
is_present_value kind.FxVol = false
is_present_value kind.Notional = false
is_present_value kind.AddOnNotionalFactor = false
is_present_value kind.AddOnFixedAmount = false
is_present_value kind.ProductClassMultiplier = false
is_present_value kind.Pv = true

-- a present value is passed over
abbrev pub kept_as : RiskType → Texts → Result (Option Entry) RowFault
kept_as kind t = if is_present_value kind then Ok None else (entry_of kind t >>= λ entry. Ok (Some entry))

unfoldable pub typed_of : Texts → Result (Option Entry) RowFault
typed_of t = do
  kind ← ok_or (kind_named t.risk_type) fault.RiskType
  kept_as kind t

-- and so is a record of the schedule, in any case: it is no part of this model
abbrev pub model_of : Texts → Result (Option Entry) RowFault
model_of t = if is_word (codes "Schedule") t.im_model then Ok None else typed_of t

abbrev pub text_row_of : Texts → Result (Option Entry) RowFault
text_row_of t = if are_text t then model_of t else Err fault.NotUtf8

-- a record has at most as many fields as the header
abbrev pub row_of : Columns → List (List ℕ) → Result (Option Entry) RowFault
row_of columns fields =
    if nat_lt columns.count (length fields) then Err fault.FieldCount else text_row_of (texts_of columns fields)
