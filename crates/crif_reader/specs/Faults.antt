-- The own number of each fault of a file, and of each fault of a record. Want of memory has none.
use Rattle.std.specs.Prelude.{ℕ, Option, Some, None}
use Rattle.crif_reader.specs.declared.fault.CrifFault.{CrifFault}
use Rattle.crif_reader.specs.declared.fault.CrifFault.TheVariants as crif
use Rattle.crif_reader.specs.declared.fault.RowFault.{RowFault}
use Rattle.crif_reader.specs.declared.fault.RowFault.TheVariants as row

abbrev pub crif_fault_number : CrifFault → Option ℕ
crif_fault_number crif.NoHeader = Some 1
crif_fault_number (crif.MissingColumn column) = Some 2
crif_fault_number (crif.Row number fault) = Some 3
crif_fault_number crif.TooManyRows = Some 4
crif_fault_number crif.EmptyBatch = Some 5
crif_fault_number crif.Memory = None

abbrev pub row_fault_number : RowFault → ℕ
row_fault_number row.FieldCount = 1
row_fault_number row.NotUtf8 = 2
row_fault_number row.RiskType = 3
row_fault_number row.Trade = 4
row_fault_number row.ProductClass = 5
row_fault_number row.Qualifier = 6
row_fault_number row.Bucket = 7
row_fault_number row.Label1 = 8
row_fault_number row.Label2 = 9
row_fault_number (row.Amount numeral) = 10
row_fault_number (row.ParamRange value) = 11
row_fault_number row.DuplicateParam = 12
