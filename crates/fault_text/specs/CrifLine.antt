-- The line of a CRIF file's fault, and the fields that it shares with that of a refused block.
use Rattle.std.specs.Prelude.{ℕ, List, ◌++◌, decimal}
use Rattle.std.specs.Fmt.{signed_decimal}
use Rattle.mh_units.specs.Numeral.{fault_number}
use Rattle.crif_reader.specs.declared.fault.CrifFault.{CrifFault}
use Rattle.crif_reader.specs.declared.fault.CrifFault.TheVariants as crif
use Rattle.crif_reader.specs.declared.fault.RowFault.{RowFault}
use Rattle.crif_reader.specs.declared.fault.RowFault.TheVariants as row
use Rattle.crif_reader.specs.Columns.{column_name}
use Rattle.crif_reader.specs.Faults.{crif_fault_number, row_fault_number}
use Rattle.fault_text.specs.Fields.{field, last_field, fault_line}

-- the number of a record's fault, and that of its numeral's fault or the value of its parameter
abbrev pub row_fields : ℕ → RowFault → List ℕ
row_fields code (row.Amount numeral) = field (decimal code) ++ last_field (decimal (fault_number numeral))
row_fields code (row.ParamRange value) = field (decimal code) ++ last_field (signed_decimal value)
row_fields code _ = last_field (decimal code)

-- the number of a file's fault, and the column that is missing, or the record's number with its fault
abbrev pub crif_fields : ℕ → CrifFault → List ℕ
crif_fields code (crif.MissingColumn column) = field (decimal code) ++ last_field (column_name column)
crif_fields code (crif.Row number fault) = field (decimal code) ++ field (decimal number) ++ row_fields (row_fault_number fault) fault
crif_fields code _ = last_field (decimal code)

-- of the file that the word names
abbrev pub crif_fault : List ℕ → CrifFault → List ℕ
crif_fault word e = fault_line word (crif_fault_number e) (λ code. crif_fields code e)
