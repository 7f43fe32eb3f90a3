-- The written numerals: [sign] (digits [ "." [digits] ] | "." digits) [ ("e" | "E") [sign] digits ].
use Rattle.std.specs.Prelude.{◌≡◌, ℕ, ◌<◌, ◌≤◌, ◌⊎◌, List, [], ◌++◌, length, take, codes}
use Rattle.std.specs.List.{AllByRecursion}

-- a text of the first form, and behind it one of the second
pub record Then (P Q : List ℕ → Type 0) (text : List ℕ) : Type 0 where
  pub front : List ℕ
  pub back : List ℕ
  pub joined : text ≡ front ++ back
  pub first : P front
  pub second : Q back

-- nothing, or a text of that form
abbrev pub Maybe : (List ℕ → Type 0) → List ℕ → Type 0
Maybe P text = (text ≡ []) ⊎ P text

-- a byte from 0 to 9
pub record IsDigit (byte : ℕ) : Type 0 where
  pub low : 48 ≤ byte
  pub high : byte ≤ 57

-- one or more of 0 to 9
abbrev pub IsDigits : List ℕ → Type 0
IsDigits text = (0 < length text) × AllByRecursion IsDigit text

abbrev pub IsSign : List ℕ → Type 0
IsSign text = (text ≡ codes "+") ⊎ (text ≡ codes "-")

abbrev pub IsPoint : List ℕ → Type 0
IsPoint text = text ≡ codes "."

abbrev pub IsMark : List ℕ → Type 0
IsMark text = (text ≡ codes "e") ⊎ (text ≡ codes "E")

-- digits [ "." [digits] ] | "." digits
abbrev pub IsMantissa : List ℕ → Type 0
IsMantissa text = Then IsDigits (Maybe (Then IsPoint (Maybe IsDigits))) text ⊎ Then IsPoint IsDigits text

-- ("e" | "E") [sign] digits
abbrev pub IsExponent : List ℕ → Type 0
IsExponent = Then IsMark (Then (Maybe IsSign) IsDigits)

-- [sign] mantissa [exponent]
abbrev pub IsNumeral : List ℕ → Type 0
IsNumeral = Then (Maybe IsSign) (Then IsMantissa (Maybe IsExponent))

-- some numeral begins so
abbrev pub IsFront : List ℕ → Type 0
IsFront text = (rest : List ℕ) × IsNumeral (text ++ rest)

-- place is the length of the longest front of the text with which some numeral begins
pub record IsLongestFront (text : List ℕ) (place : ℕ) : Type 0 where
  pub within : place ≤ length text
  pub front : IsFront (take place text)
  pub longest : (n : ℕ) → n ≤ length text → IsFront (take n text) → n ≤ place
