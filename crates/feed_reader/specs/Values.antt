-- Feed grammar: the values that single fields are.
use Rattle.std.specs.Prelude.{ℕ, ◌^◌, List, [], ◌∷◌, Bool, false, not, ◌&&◌, ◌==◌, nat_lt, if◌then◌else◌, Option, Some, None, option_map, ℤ, codes}
use Rattle.std.specs.List.{list_all}
use Rattle.std.specs.Result.{result_ok}
use Rattle.std.specs.Str.{bytes_eq, all_ascii_digits}
use Rattle.std.specs.Str.Parse.{digits_value}
use Rattle.mh_io.specs.MhUnits.Numeral.{cents_of}
use Rattle.side_events.specs.CsaTerms.SimmKinds.NameText.{is_full_name}
use Rattle.side_events.specs.CsaTerms.SimmKinds.declared.margin_side.MarginSide.{MarginSide}
use Rattle.side_events.specs.CsaTerms.SimmKinds.declared.margin_side.MarginSide.TheVariants.{Post}
use Rattle.side_events.specs.CsaTerms.declared.lot_currency.LotCurrency.{LotCurrency}
use Rattle.side_events.specs.CsaTerms.declared.lot_currency.LotCurrency.TheVariants.{Same, Other}
use Rattle.feed_reader.specs.Fields.{is_nil}

-- the field, where it is a name that isn't empty
abbrev pub full_name : List ℕ → Option (List ℕ)
full_name field = if is_full_name field then Some field else None

-- the fields, where there are any and each is such a name
abbrev pub full_names : List (List ℕ) → Option (List (List ℕ))
full_names fields = if not (is_nil fields) && list_all is_full_name fields then Some fields else None

-- the cents of a numeral
abbrev pub amount : List ℕ → Option ℤ
amount field = option_map (λ cents. cents.0) (result_ok (cents_of field))

-- decimal digits, of which the first is not 0
abbrev pub is_counting : List ℕ → Bool
is_counting [] = false
is_counting (b ∷ bs) = not (b == 48) && all_ascii_digits (b ∷ bs)

-- a number from 1 to 4,294,967,295
abbrev pub number : List ℕ → Option ℕ
number field = if is_counting field && nat_lt (digits_value 10 field) (2 ^ 32) then Some (digits_value 10 field) else None

-- whether a lot is in the agreement's currency
abbrev pub lot_currency : List ℕ → Option LotCurrency
lot_currency field =
    if bytes_eq field (codes "same") then Some Same
    else if bytes_eq field (codes "other") then Some Other
    else None

-- the side of the margin that is named: what is posted
abbrev pub margin_side : List ℕ → Option MarginSide
margin_side field = if bytes_eq field (codes "post") then Some Post else None
