-- The text of a batch: a header and a record for each row, as csv writes them with tabs between fields and LF at the end.
use Rattle.std.specs.Prelude.{◌≡◌, ℕ, List, [], ◌∷◌, ◌++◌, map, false, Some}
use Rattle.std.specs.List.{flat_map, AllByRecursion}
use Rattle.std.specs.Global.{Vec}
use Rattle.csv.specs.Writing.{default_writer, with_delimiter, row_text, writer_setup, fields_written, has_written, text_written}
use Rattle.csv.specs.declared.writer.Writer.{Writer}
use Rattle.csv.specs.declared.writer.WriterBuilder.{WriterBuilder}
use Rattle.crif_reader.specs.SimmKinds.declared.row.TradeRows.{TradeRows}
use Rattle.crif_reader.specs.SimmKinds.NameText.{IsName}
use Rattle.crif_reader.specs.Columns.{column_name}
use Rattle.crif_reader.specs.declared.column.Column.{Column}
use Rattle.crif_reader.specs.declared.column.Column.TheVariants as column
use Rattle.crif_writer.specs.Rows.{row_fields, HasRowParts}

-- the columns that each file has, in their order; the margin model is left out
abbrev pub written_columns : List Column
written_columns =
    column.TradeId ∷ column.ProductClass ∷ column.RiskType ∷ column.Qualifier ∷ column.Bucket ∷ column.Label1 ∷ column.Label2
    ∷ column.Amount ∷ column.AmountCurrency ∷ column.AmountUsd ∷ []

abbrev pub header_fields : List (List ℕ)
header_fields = map column_name written_columns

-- the rows of a trade, in their order
abbrev pub trade_records : TradeRows → List (List (List ℕ))
trade_records t = map (row_fields t.trade) t.rows

-- the header, and then the trades in their order
abbrev pub batch_records : List TradeRows → List (List (List ℕ))
batch_records trades = header_fields ∷ flat_map trade_records trades

-- csv's quotes where a field needs them, doubled quotes and LF, with a tab between fields
abbrev pub tab_writer : WriterBuilder
tab_writer = with_delimiter default_writer 9

-- the text of records, one after another
unfoldable pub records_text : List (List (List ℕ)) → List ℕ
records_text [] = []
records_text (fields ∷ more) = row_text tab_writer fields ++ records_text more

abbrev pub batch_text : List TradeRows → List ℕ
batch_text trades = records_text (batch_records trades)

-- ---- writing it

-- a writer between two records that has written this text
pub record HasWritten (writer : Writer (Vec ℕ)) (bytes : List ℕ) : Type 0 where
  pub setup : writer_setup writer ≡ tab_writer
  pub no_field : fields_written writer ≡ 0
  pub no_byte : has_written writer ≡ false
  pub text : text_written (λ (v : Vec ℕ). Some v.items) writer ≡ Some bytes

-- it writes these records behind those that it has written
abbrev pub WritesMore : Writer (Vec ℕ) → Writer (Vec ℕ) → List (List (List ℕ)) → Type 0
WritesMore before after records = (bytes : List ℕ) → HasWritten before bytes → HasWritten after (bytes ++ records_text records)

-- what the names and parts in a trade keep, by their types
pub record HasTradeParts (t : TradeRows) : Type 0 where
  pub name : IsName t.trade
  pub rows : AllByRecursion HasRowParts t.rows
