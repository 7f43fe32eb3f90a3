-- What reading answers, beside what the grammar has.
use Rattle.std.specs.Prelude.{◌≡◌, Result, Ok, Err}
use Rattle.schedule_reader.specs.declared.fault.ScheduleFault.{ScheduleFault}
use Rattle.schedule_reader.specs.declared.fault.ScheduleFault.TheVariants.{NoHeader, MissingColumn, Row, TooManyRows, EmptyBatch, Memory}

-- the fault that is answered is the grammar's; memory may be wanted at any text
abbrev pub Fails : {Y : Type 0} → ScheduleFault → Result Y ScheduleFault → Type 0
Fails Memory read = Unit {0}
Fails NoHeader read = read ≡ Err NoHeader
Fails (MissingColumn column) read = read ≡ Err (MissingColumn column)
Fails (Row number fault) read = read ≡ Err (Row number fault)
Fails TooManyRows read = read ≡ Err TooManyRows
Fails EmptyBatch read = read ≡ Err EmptyBatch

-- The result, seen by view, is what the grammar has.
abbrev pub Gives : {X Y : Type 0} → (X → Y) → Result X ScheduleFault → Result Y ScheduleFault → Type 0
Gives view (Ok x) read = read ≡ Ok (view x)
Gives view (Err fault) read = Fails fault read
