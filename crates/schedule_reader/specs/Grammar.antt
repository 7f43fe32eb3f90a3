-- Schedule grammar: the rows of a file, or the first fault in reading order.
use Rattle.std.specs.Prelude.{ℕ, ◌+◌, List, [], ◌∷◌, ◌++◌, length, ◌==◌, Option, Some, None, Result, Ok, Err, if◌then◌else◌}
use Rattle.std.specs.Result.{result_map_both}
use Rattle.crif_records.specs.Binds.{◌>>=◌}
use Rattle.crif_records.specs.Records.{records_of}
use Rattle.schedule_im.specs.declared.row.ScheduleRow.{ScheduleRow}
use Rattle.schedule_reader.specs.declared.columns.Columns.{Columns}
use Rattle.schedule_reader.specs.declared.fault.ScheduleFault.{ScheduleFault}
use Rattle.schedule_reader.specs.declared.fault.ScheduleFault.TheVariants.{NoHeader, Row, TooManyRows, EmptyBatch}
use Rattle.schedule_reader.specs.declared.fault.ScheduleRowFault.{ScheduleRowFault}
use Rattle.schedule_reader.specs.Columns.{columns_of}
use Rattle.schedule_reader.specs.Row.{row_of}

-- the rows so far, with what a record gave
abbrev pub with_taken : List ScheduleRow → Option ScheduleRow → List ScheduleRow
with_taken rows None = rows
with_taken rows (Some row) = rows ++ row ∷ []

-- a record's fault, with its number
abbrev pub at_record : {A : Type 0} → ℕ → Result A ScheduleRowFault → Result A ScheduleFault
at_record number read = result_map_both (λ x. x) (λ fault. Row number fault) read

-- the records from a number on, behind the rows before them: the header is the first, and 100,000 may follow it
abbrev pub kept_of : Columns → ℕ → List ScheduleRow → List (List (List ℕ)) → Result (List ScheduleRow) ScheduleFault
kept_of columns number rows [] = Ok rows
kept_of columns number rows (fields ∷ more) =
    if number == 100002 then Err TooManyRows
    else (at_record number (row_of columns fields) >>= λ taken. kept_of columns (number + 1) (with_taken rows taken) more)

-- a portfolio has a row at least
abbrev pub some_rows : List ScheduleRow → Result (List ScheduleRow) ScheduleFault
some_rows rows = if length rows == 0 then Err EmptyBatch else Ok rows

abbrev pub rows_of : Columns → List (List (List ℕ)) → Result (List ScheduleRow) ScheduleFault
rows_of columns records = kept_of columns 2 [] records >>= some_rows

-- the first record is the header
abbrev pub schedule_of_records : List (List (List ℕ)) → Result (List ScheduleRow) ScheduleFault
schedule_of_records [] = Err NoHeader
schedule_of_records (header ∷ records) = columns_of header >>= λ columns. rows_of columns records

unfoldable pub schedule_of : List ℕ → Result (List ScheduleRow) ScheduleFault
schedule_of bytes = schedule_of_records (records_of bytes)
