-- Which texts are read as currencies.
use Rattle.std.specs.Prelude.{ℕ, List, map, Option, Some, None, if◌then◌else◌}
use Rattle.std.specs.Char.{to_ascii_uppercase}
use Rattle.simm_kinds.specs.NameText.{is_currency}

abbrev pub upper : List ℕ → List ℕ
upper text = map to_ascii_uppercase text

-- three letters in either case, kept in upper case
abbrev pub currency_text : List ℕ → Option (List ℕ)
currency_text text = if is_currency (upper text) then Some (upper text) else None
