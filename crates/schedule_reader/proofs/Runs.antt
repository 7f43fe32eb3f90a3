-- A run over the records of a file, record by record.
use Rattle.std.proofs.Common.{◌≡◌, [], ℕ, List, Err, refl}
use Rattle.schedule_im.specs.declared.row.ScheduleRow.{ScheduleRow}
use Rattle.schedule_reader.specs.declared.columns.Columns.{Columns}
use Rattle.schedule_reader.specs.declared.fault.ScheduleFault.{ScheduleFault}
use Rattle.schedule_reader.specs.declared.fault.ScheduleFault.TheVariants.{NoHeader, MissingColumn, Row, TooManyRows, EmptyBatch, Memory}
use Rattle.schedule_reader.specs.Reads.{Fails}
use Rattle.schedule_reader.specs.Grammar.{kept_of}

-- a fault is its own
pub fails_same : (A : Type 0) (fault : ScheduleFault) → Fails {Y = A} fault (Err fault)
fails_same A Memory = tt
fails_same A NoHeader = refl
fails_same A (MissingColumn column) = refl
fails_same A (Row number fault) = refl
fails_same A TooManyRows = refl
fails_same A EmptyBatch = refl

-- the rows so far and the records that are left give what all records give
abbrev pub IsUnderWay : Columns → List (List (List ℕ)) → ℕ → List ScheduleRow → List (List (List ℕ)) → Type 0
IsUnderWay columns all number rows left = kept_of columns number rows left ≡ kept_of columns 2 [] all
