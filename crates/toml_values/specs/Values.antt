-- The kinds of value in a file, each with its test: a function of the value that stands at a path, where one does. Money is in
-- cents, a rate in ten-thousandths, a six in millionths.
use Rattle.std.specs.Prelude.{ℕ, ◌+◌, ◌==◌, Bool, List, option_map, Option, ok_or, option_and_then, Result, Ok, Err, ℤ, pos, ◌*ℤ◌, if◌then◌else◌}
use Rattle.std.specs.Borrow.{Bor}
use Rattle.std.specs.Result.{result_map_both}
use Rattle.toml.specs.Data.{Data, Items, no_items, item, Members, no_members, member, as_str, as_integer, as_bool, as_array, as_table}
use Rattle.toml.specs.View.{view}
use Rattle.toml.specs.declared.value.Value.{Value}
use Rattle.simm_kinds.specs.MhUnits.Numeral.{cents_of, fixed_of}
use Rattle.simm_kinds.specs.Currency.{currency_text}
use Rattle.toml_values.specs.declared.range.Range.{Range}
use Rattle.toml_values.specs.declared.fault.ValueFault.{ValueFault}
use Rattle.toml_values.specs.declared.fault.ValueFault.TheVariants.{Missing, BadNumber, OutOfRange}
use Rattle.toml_values.specs.Answers.{◌>>=◌}
use Rattle.toml_values.specs.Ranges.{is_within, dollars}

-- the value that was found, where one was
abbrev pub found : Option (Bor Value) → Option Data
found value = option_map (λ v. view v.now) value

-- ---- values of a type

abbrev pub text_of : List ℕ → Option Data → Result (List ℕ) ValueFault
text_of path value = ok_or (option_and_then as_str value) (Missing path)

-- true or false
abbrev pub flag_of : List ℕ → Option Data → Result Bool ValueFault
flag_of path value = ok_or (option_and_then as_bool value) (Missing path)

abbrev pub table_of : List ℕ → Option Data → Result Members ValueFault
table_of path value = ok_or (option_and_then as_table value) (Missing path)

abbrev pub array_of : List ℕ → Option Data → Result Items ValueFault
array_of path value = ok_or (option_and_then as_array value) (Missing path)

-- how many entries a table has, and how many places an array
abbrev pub members_count : Members → ℕ
members_count no_members = 0
members_count (member key value rest) = members_count rest + 1

abbrev pub items_count : Items → ℕ
items_count no_items = 0
items_count (item value rest) = items_count rest + 1

-- an array of so many places
unfoldable pub array_of_length : List ℕ → ℕ → Option Data → Result Items ValueFault
array_of_length path count value = do
  places ← array_of path value
  if items_count places == count then Ok places else Err (Missing path)

-- ---- currencies

-- three letters in either case, kept in upper case
unfoldable pub currency_of : List ℕ → Option Data → Result (List ℕ) ValueFault
currency_of path value = do
  text ← text_of path value
  ok_or (currency_text text) (BadNumber path)

-- ---- numbers in a range

abbrev pub in_range : List ℕ → Range → ℤ → Result ℤ ValueFault
in_range path range n = if is_within range n then Ok n else Err (OutOfRange path n)

-- a text that is a numeral without an exponent, with at most so many digits behind the point, in units of that last place
unfoldable pub fixed_at : ℕ → List ℕ → Range → Option Data → Result ℤ ValueFault
fixed_at places path range value = do
  text ← text_of path value
  number ← ok_or (fixed_of places text) (BadNumber path)
  in_range path range number

abbrev pub rate_of : List ℕ → Range → Option Data → Result ℤ ValueFault
rate_of path range value = fixed_at 4 path range value

abbrev pub six_of : List ℕ → Range → Option Data → Result ℤ ValueFault
six_of path range value = fixed_at 6 path range value

-- a text that is any numeral of money
abbrev pub cents_in : List ℕ → List ℕ → Result ℤ ValueFault
cents_in path text = result_map_both (λ c. c.0) (λ _. BadNumber path) (cents_of text)

unfoldable pub money_of : List ℕ → Range → Option Data → Result ℤ ValueFault
money_of path range value = do
  text ← text_of path value
  cents ← cents_in path text
  in_range path range cents

-- USD: an integer, whole dollars in the file and cents here
unfoldable pub usd_of : List ℕ → Option Data → Result ℤ ValueFault
usd_of path value = do
  number ← ok_or (option_and_then as_integer value) (Missing path)
  whole ← in_range path dollars number
  Ok (pos 100 *ℤ whole)
