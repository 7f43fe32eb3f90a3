-- The own number of each fault of a file, and of each fault of a record. Want of memory has none.
use Rattle.std.specs.Prelude.{ℕ, Option, Some, None}
use Rattle.schedule_reader.specs.declared.fault.ScheduleFault.{ScheduleFault}
use Rattle.schedule_reader.specs.declared.fault.ScheduleFault.TheVariants as fault
use Rattle.schedule_reader.specs.declared.fault.ScheduleRowFault.{ScheduleRowFault}
use Rattle.schedule_reader.specs.declared.fault.ScheduleRowFault.TheVariants as row

abbrev pub schedule_fault_number : ScheduleFault → Option ℕ
schedule_fault_number fault.NoHeader = Some 1
schedule_fault_number (fault.MissingColumn column) = Some 2
schedule_fault_number (fault.Row number fault) = Some 3
schedule_fault_number fault.TooManyRows = Some 4
schedule_fault_number fault.EmptyBatch = Some 5
schedule_fault_number fault.Memory = None

abbrev pub row_fault_number : ScheduleRowFault → ℕ
row_fault_number row.FieldCount = 1
row_fault_number row.NotUtf8 = 2
row_fault_number row.RiskType = 3
row_fault_number row.Trade = 4
row_fault_number row.Class = 5
row_fault_number (row.Amount numeral) = 6
row_fault_number row.EndDate = 7
