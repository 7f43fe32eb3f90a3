-- The fields of a record that are read.
use Rattle.std.specs.Prelude.{ℕ, List, [], ◌∷◌, length, reverse, ◌&&◌, ◌==◌, unwrap_or, codes, if◌then◌else◌}
use Rattle.csv.specs.Records.{field_at}
use Rattle.simm_kinds.specs.Words.{is_word}

abbrev pub without_leading_spaces : List ℕ → List ℕ
without_leading_spaces [] = []
without_leading_spaces (b ∷ bs) = if b == 32 then without_leading_spaces bs else b ∷ bs

-- without the ASCII spaces at both ends
abbrev pub trimmed : List ℕ → List ℕ
trimmed bytes = reverse (without_leading_spaces (reverse (without_leading_spaces bytes)))

-- a field that is missing at the end is empty
abbrev pub text_at : List (List ℕ) → ℕ → List ℕ
text_at fields place = trimmed (unwrap_or (field_at fields place) [])

-- AmountUSD; where that is empty, an Amount in USD
abbrev pub usd_text : List ℕ → List ℕ → List ℕ → List ℕ
usd_text amount_usd amount_currency amount =
    if (length amount_usd == 0) && is_word (codes "USD") amount_currency then amount else amount_usd
