-- The one line that is printed where a command ends with a fault.
use Rattle.std.specs.Prelude.{ℕ, List, ◌++◌, codes}
use Rattle.fault_text.specs.Fields.{last_field}

abbrev pub words_fault : List ℕ
words_fault = codes "FAULT\tWORDS\n"

-- of a file: that it can't be found, can't be read, or is too long
abbrev pub find_fault : List ℕ → List ℕ
find_fault name = codes "FAULT\tFIND\t" ++ last_field name

abbrev pub read_fault : List ℕ → List ℕ
read_fault name = codes "FAULT\tREAD\t" ++ last_field name

abbrev pub long_fault : List ℕ → List ℕ
long_fault name = codes "FAULT\tLONG\t" ++ last_field name
