-- The columns of a file that the schedule reads: their names, and where the header has them.
use Rattle.std.specs.Prelude.{ℕ, List, length, codes, ok_or, Result, Ok}
use Rattle.crif_records.specs.Binds.{◌>>=◌}
use Rattle.crif_records.specs.Columns.{place_named}
use Rattle.schedule_reader.specs.declared.column.ScheduleColumn.{ScheduleColumn}
use Rattle.schedule_reader.specs.declared.column.ScheduleColumn.TheVariants as column
use Rattle.schedule_reader.specs.declared.columns.Columns.{Columns}
use Rattle.schedule_reader.specs.declared.fault.ScheduleFault.{ScheduleFault}
use Rattle.schedule_reader.specs.declared.fault.ScheduleFault.TheVariants.{MissingColumn}

abbrev pub column_name : ScheduleColumn → List ℕ
column_name column.TradeId = codes "TradeID"
column_name column.ProductClass = codes "ProductClass"
column_name column.RiskType = codes "RiskType"
column_name column.Amount = codes "Amount"
column_name column.AmountCurrency = codes "AmountCurrency"
column_name column.AmountUsd = codes "AmountUSD"
column_name column.ImModel = codes "IMModel"
column_name column.EndDate = codes "EndDate"

abbrev pub required : List (List ℕ) → ScheduleColumn → Result ℕ ScheduleFault
required header column = ok_or (place_named header (column_name column)) (MissingColumn column)

-- All of them are required, the first that is missing being the fault. Every other column is passed over.
unfoldable pub columns_of : List (List ℕ) → Result Columns ScheduleFault
columns_of header = do
  trade_id ← required header column.TradeId
  product_class ← required header column.ProductClass
  risk_type ← required header column.RiskType
  amount ← required header column.Amount
  amount_currency ← required header column.AmountCurrency
  amount_usd ← required header column.AmountUsd
  im_model ← required header column.ImModel
  end_date ← required header column.EndDate
  Ok (record {
    count = length header;
    trade_id = trade_id;
    product_class = product_class;
    risk_type = risk_type;
    amount = amount;
    amount_currency = amount_currency;
    amount_usd = amount_usd;
    im_model = im_model;
    end_date = end_date;
  })
