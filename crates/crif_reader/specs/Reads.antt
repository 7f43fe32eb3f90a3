-- What reading answers, beside what the grammar has.
use Rattle.std.specs.Prelude.{◌≡◌, Result, Ok, Err}
use Rattle.crif_reader.specs.declared.fault.CrifFault.{CrifFault}
use Rattle.crif_reader.specs.declared.fault.CrifFault.TheVariants.{NoHeader, MissingColumn, Row, TooManyRows, EmptyBatch, Memory}
use Rattle.crif_reader.specs.declared.fault.RowFault.{RowFault}
use Rattle.crif_reader.specs.declared.row_stop.RowStop.{RowStop}
use Rattle.crif_reader.specs.declared.row_stop.RowStop.TheVariants as stop

-- the fault that is answered is the grammar's; memory may be wanted at any text
abbrev pub Fails : {Y : Type 0} → CrifFault → Result Y CrifFault → Type 0
Fails Memory read = Unit {0}
Fails NoHeader read = read ≡ Err NoHeader
Fails (MissingColumn column) read = read ≡ Err (MissingColumn column)
Fails (Row number fault) read = read ≡ Err (Row number fault)
Fails TooManyRows read = read ≡ Err TooManyRows
Fails EmptyBatch read = read ≡ Err EmptyBatch

-- The result, seen by view, is what the grammar has.
abbrev pub Gives : {X Y : Type 0} → (X → Y) → Result X CrifFault → Result Y CrifFault → Type 0
Gives view (Ok x) read = read ≡ Ok (view x)
Gives view (Err fault) read = Fails fault read

-- the same of one record
abbrev pub GivesRow : {X Y : Type 0} → (X → Y) → Result X RowStop → Result Y RowFault → Type 0
GivesRow view (Ok x) read = read ≡ Ok (view x)
GivesRow view (Err stop.Memory) read = Unit {0}
GivesRow view (Err (stop.Fault fault)) read = read ≡ Err fault
