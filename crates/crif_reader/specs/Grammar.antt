-- CRIF grammar: the trades of a file and the records that were passed over, or the first fault in reading order.
use Rattle.std.specs.Prelude.{ℕ, ◌+◌, List, [], ◌∷◌, ◌++◌, length, ◌==◌, Option, Some, None, Result, Ok, Err, if◌then◌else◌}
use Rattle.std.specs.Result.{result_map_both}
use Rattle.crif_records.specs.SimmKinds.declared.row.TradeRows.{TradeRows}
use Rattle.crif_reader.specs.declared.columns.Columns.{Columns}
use Rattle.crif_reader.specs.declared.fault.CrifFault.{CrifFault}
use Rattle.crif_reader.specs.declared.fault.CrifFault.TheVariants.{NoHeader, Row, TooManyRows, EmptyBatch}
use Rattle.crif_reader.specs.declared.fault.RowFault.{RowFault}
use Rattle.crif_records.specs.Binds.{◌>>=◌}
use Rattle.crif_records.specs.Records.{records_of}
use Rattle.crif_reader.specs.Columns.{columns_of}
use Rattle.crif_reader.specs.Row.{Entry, row_of}
use Rattle.crif_reader.specs.Repeated.{once}
use Rattle.crif_reader.specs.Trades.{gathered}

-- what the records so far gave: the rows, and how many records were passed over
pub record Kept : Type 0 where
  pub entries : List Entry
  pub passed_over : ℕ

abbrev pub none_kept : Kept
none_kept = record { entries = []; passed_over = 0 }

abbrev pub with_taken : Kept → Option Entry → Kept
with_taken kept None = record { entries = kept.entries; passed_over = kept.passed_over + 1 }
with_taken kept (Some entry) = record { entries = kept.entries ++ entry ∷ []; passed_over = kept.passed_over }

-- what a record gives behind the rows before it
abbrev pub taken_of : Columns → List Entry → List (List ℕ) → Result (Option Entry) RowFault
taken_of columns before fields = row_of columns fields >>= once before

-- a record's fault, with its number
abbrev pub at_record : {A : Type 0} → ℕ → Result A RowFault → Result A CrifFault
at_record number read = result_map_both (λ x. x) (λ fault. Row number fault) read

-- the records from a number on, behind what was kept before: the header is the first, and 100,000 may follow it
abbrev pub kept_of : Columns → ℕ → Kept → List (List (List ℕ)) → Result Kept CrifFault
kept_of columns number kept [] = Ok kept
kept_of columns number kept (fields ∷ more) =
    if number == 100002 then Err TooManyRows
    else (at_record number (taken_of columns kept.entries fields) >>= λ taken. kept_of columns (number + 1) (with_taken kept taken) more)

-- a batch has a row at least
pub record Crif : Type 0 where
  pub trades : List TradeRows
  pub passed_over : ℕ

abbrev pub batch_of : Kept → Result Crif CrifFault
batch_of kept =
    if length kept.entries == 0 then Err EmptyBatch
    else Ok (record { trades = gathered kept.entries; passed_over = kept.passed_over })

unfoldable pub rows_of : Columns → List (List (List ℕ)) → Result Crif CrifFault
rows_of columns records = do
  kept ← kept_of columns 2 none_kept records
  batch_of kept

-- the first record is the header
abbrev pub crif_of_records : List (List (List ℕ)) → Result Crif CrifFault
crif_of_records [] = Err NoHeader
crif_of_records (header ∷ records) = columns_of header >>= λ columns. rows_of columns records

unfoldable pub crif_of : List ℕ → Result Crif CrifFault
crif_of bytes = crif_of_records (records_of bytes)
