-- The line of a file that the schedule refuses.
use Rattle.std.specs.Prelude.{ℕ, List, ◌++◌, codes, decimal, Some, ℤ}
use Rattle.std.specs.Fmt.{signed_decimal}
use Rattle.mh_units.specs.Numeral.{fault_number}
use Rattle.schedule_im.specs.declared.margin.ScheduleRange.{ScheduleRange}
use Rattle.schedule_reader.specs.declared.fault.ScheduleFault.{ScheduleFault}
use Rattle.schedule_reader.specs.declared.fault.ScheduleFault.TheVariants as fault
use Rattle.schedule_reader.specs.declared.fault.ScheduleRowFault.{ScheduleRowFault}
use Rattle.schedule_reader.specs.declared.fault.ScheduleRowFault.TheVariants as row
use Rattle.schedule_reader.specs.Columns.{column_name}
use Rattle.schedule_reader.specs.Faults.{schedule_fault_number, row_fault_number}
use Rattle.fault_text.specs.Fields.{field, last_field, fault_line}

-- the number of a record's fault, and that of its numeral's fault
abbrev pub row_fields : ℕ → ScheduleRowFault → List ℕ
row_fields code (row.Amount numeral) = field (decimal code) ++ last_field (decimal (fault_number numeral))
row_fields code _ = last_field (decimal code)

-- the number of a file's fault, and the column that is missing, or the record's number with its fault
abbrev pub schedule_fields : ℕ → ScheduleFault → List ℕ
schedule_fields code (fault.MissingColumn column) = field (decimal code) ++ last_field (column_name column)
schedule_fields code (fault.Row number f) = field (decimal code) ++ field (decimal number) ++ row_fields (row_fault_number f) f
schedule_fields code _ = last_field (decimal code)

abbrev pub schedule_fault : ScheduleFault → List ℕ
schedule_fault e = fault_line (codes "SCHEDULE") (schedule_fault_number e) (λ code. schedule_fields code e)

-- the amounts are too large: the sum of their sizes
abbrev pub range_fields : ℤ → List ℕ
range_fields value = field (decimal 6) ++ last_field (signed_decimal value)

abbrev pub range_fault : ScheduleRange → List ℕ
range_fault range = fault_line (codes "SCHEDULE") (Some 6) (λ code. range_fields range.value)
