-- The columns of a file: their names, and where the header has them.
use Rattle.std.specs.Prelude.{ℕ, List, length, codes, Option, ok_or, Result, Ok}
use Rattle.crif_records.specs.Columns.{place_named}
use Rattle.crif_reader.specs.declared.column.Column.{Column}
use Rattle.crif_reader.specs.declared.column.Column.TheVariants as column
use Rattle.crif_reader.specs.declared.columns.Columns.{Columns}
use Rattle.crif_reader.specs.declared.fault.CrifFault.{CrifFault}
use Rattle.crif_reader.specs.declared.fault.CrifFault.TheVariants.{MissingColumn}
use Rattle.crif_records.specs.Binds.{◌>>=◌}

abbrev pub column_name : Column → List ℕ
column_name column.TradeId = codes "TradeID"
column_name column.ProductClass = codes "ProductClass"
column_name column.RiskType = codes "RiskType"
column_name column.Qualifier = codes "Qualifier"
column_name column.Bucket = codes "Bucket"
column_name column.Label1 = codes "Label1"
column_name column.Label2 = codes "Label2"
column_name column.Amount = codes "Amount"
column_name column.AmountCurrency = codes "AmountCurrency"
column_name column.AmountUsd = codes "AmountUSD"
column_name column.ImModel = codes "IMModel"

-- the first place with the column's name
abbrev pub place_of : List (List ℕ) → Column → Option ℕ
place_of header column = place_named header (column_name column)

abbrev pub required : List (List ℕ) → Column → Result ℕ CrifFault
required header column = ok_or (place_of header column) (MissingColumn column)

-- The required columns, the first that is missing being the fault, and that of the margin model, which may be missing. Every
-- other column is passed over.
unfoldable pub columns_of : List (List ℕ) → Result Columns CrifFault
columns_of header = do
  trade_id ← required header column.TradeId
  product_class ← required header column.ProductClass
  risk_type ← required header column.RiskType
  qualifier ← required header column.Qualifier
  bucket ← required header column.Bucket
  label1 ← required header column.Label1
  label2 ← required header column.Label2
  amount ← required header column.Amount
  amount_currency ← required header column.AmountCurrency
  amount_usd ← required header column.AmountUsd
  Ok (record {
    count = length header;
    trade_id = trade_id;
    product_class = product_class;
    risk_type = risk_type;
    qualifier = qualifier;
    bucket = bucket;
    label1 = label1;
    label2 = label2;
    amount = amount;
    amount_currency = amount_currency;
    amount_usd = amount_usd;
    im_model = place_of header column.ImModel;
  })
