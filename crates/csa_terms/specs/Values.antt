-- The kinds of value that a terms file has beside those of every file, each with its test.
use Rattle.std.specs.Prelude.{ℕ, List, is_some, Option, ok_or, Result, Ok, Err, ℤ, if◌then◌else◌}
use Rattle.toml.specs.Data.{Data}
use Rattle.toml_values.specs.Answers.{◌>>=◌}
use Rattle.toml_values.specs.Values.{text_of}
use Rattle.toml_values.specs.SimmKinds.NameText.{name_fault, is_full_name}
use Rattle.csa_terms.specs.declared.fault.TermsFault.{TermsFault}
use Rattle.csa_terms.specs.declared.fault.TermsFault.TheVariants.{BadDate, BadName}
use Rattle.iso_dates.specs.Dates.{minute_in, date_in}
use Rattle.csa_terms.specs.Faults.{of_value}

-- ---- names

-- a name, which may be empty
abbrev pub name_of : List ℕ → List ℕ → Result (List ℕ) TermsFault
name_of path text = if is_some (name_fault text) then Err (BadName path) else Ok text

-- a name that isn't empty
abbrev pub full_name_of : List ℕ → List ℕ → Result (List ℕ) TermsFault
full_name_of path text = if is_full_name text then Ok text else Err (BadName path)

unfoldable pub set_name_of : List ℕ → Option Data → Result (List ℕ) TermsFault
set_name_of path value = do
  text ← of_value (text_of path value)
  full_name_of path text

-- ---- times and dates

unfoldable pub minute_of : List ℕ → Option Data → Result ℕ TermsFault
minute_of path value = do
  text ← of_value (text_of path value)
  ok_or (minute_in text) (BadDate path)

unfoldable pub date_of : List ℕ → Option Data → Result ℤ TermsFault
date_of path value = do
  text ← of_value (text_of path value)
  ok_or (date_in text) (BadDate path)
