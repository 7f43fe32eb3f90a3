-- The value of a numeral, and what reading one answers.
use Rattle.std.specs.Prelude.{◌≡◌, ◌⊎◌, ℕ, ◌+◌, ◌-◌, ◌*◌, ◌/◌, ◌^◌, ◌<◌, ◌≤◌, Bool, false, not, ◌&&◌, ◌||◌, ◌==◌, nat_lt, nat_le, if◌then◌else◌, List, [], ◌∷◌, ◌++◌, length, drop, take_while, ℤ, pos, neg_ℤ, unsigned_abs, Option, Some, None, MatchOption, Result, Ok, Err, IfOk}
use Rattle.std.specs.List.{prefix_len}
use Rattle.std.specs.Result.{result_map_both}
use Rattle.std.specs.Char.{is_ascii_digit}
use Rattle.mh_units.specs.declared.quantities.Cents.{Cents}
use Rattle.mh_units.specs.declared.quantities.Rate4.{Rate4}
use Rattle.mh_units.specs.declared.numeral.NumeralFault.{NumeralFault}
use Rattle.mh_units.specs.declared.numeral.NumeralFault.TheVariants as faults
use Rattle.mh_units.specs.declared.scan.Phase.TheVariants as phases
use Rattle.mh_units.specs.Grammar.{Maybe, IsSign, IsExponent, IsNumeral, IsLongestFront}
use Rattle.mh_units.specs.Scan.{is_numeral, reach}

-- ---- the parts of a numeral, from the left

abbrev pub is_mark : ℕ → Bool
is_mark b = b == 69 || b == 101

-- the digits at the front, and what follows them
abbrev pub digits : List ℕ → List ℕ
digits text = take_while is_ascii_digit text

abbrev pub after_digits : List ℕ → List ℕ
after_digits text = drop (prefix_len is_ascii_digit text) text

-- it begins with a minus
abbrev pub is_minus : List ℕ → Bool
is_minus [] = false
is_minus (b ∷ bs) = b == 45

-- what follows a sign, a point or an exponent's mark, if there is one
abbrev pub after_sign : List ℕ → List ℕ
after_sign [] = []
after_sign (b ∷ bs) = if b == 43 || b == 45 then bs else b ∷ bs

abbrev pub after_point : List ℕ → List ℕ
after_point [] = []
after_point (b ∷ bs) = if b == 46 then bs else b ∷ bs

abbrev pub after_mark : List ℕ → List ℕ
after_mark [] = []
after_mark (b ∷ bs) = if is_mark b then bs else b ∷ bs

-- the digits before the point, and those behind it
abbrev pub whole : List ℕ → List ℕ
whole text = digits (after_sign text)

abbrev pub fraction : List ℕ → List ℕ
fraction text = digits (after_point (after_digits (after_sign text)))

-- what follows the digits of the mantissa
abbrev pub after_mantissa : List ℕ → List ℕ
after_mantissa text = after_digits (after_point (after_digits (after_sign text)))

-- the exponent with its sign, and its digits
abbrev pub exponent : List ℕ → List ℕ
exponent text = after_mark (after_mantissa text)

abbrev pub exponent_digits : List ℕ → List ℕ
exponent_digits text = digits (after_sign (exponent text))

-- The text is put together of these parts as the grammar puts a numeral together.
pub record IsApart (text : List ℕ) : Type 0 where
  pub sign : List ℕ
  pub mantissa : List ℕ
  pub joined : text ≡ sign ++ (mantissa ++ after_mantissa text)
  pub signed_first : Maybe IsSign sign
  pub pointed : ((mantissa ≡ whole text) × (fraction text ≡ [])) ⊎ (mantissa ≡ whole text ++ (46 ∷ fraction text))
  pub powered : Maybe IsExponent (after_mantissa text)

-- ---- the value

-- the number that digits write, behind a number that stands before them
abbrev pub number_after : ℕ → List ℕ → ℕ
number_after n [] = n
number_after n (b ∷ bs) = number_after (n * 10 + (b - 48)) bs

abbrev pub number : List ℕ → ℕ
number text = number_after 0 text

-- a fraction rounded to the nearest whole number, halves upwards
abbrev pub nearest : ℕ → ℕ → ℕ
nearest top bottom = (2 * top + bottom) / (2 * bottom)

-- The digits' number, less one power of ten for each digit behind the point, times ten to the power of the exponent and of
-- places, rounded to the nearest.
abbrev pub scaled : ℕ → List ℕ → List ℕ → Bool → List ℕ → ℕ
scaled places before behind below power =
    if below
    then nearest (number (before ++ behind) * 10 ^ places) (10 ^ (length behind + number power))
    else nearest (number (before ++ behind) * 10 ^ (places + number power)) (10 ^ length behind)

-- the size of the numeral's value times 10 to the power of places, rounded to the nearest, halves away from zero
unfoldable pub magnitude : ℕ → List ℕ → ℕ
magnitude places text = scaled places (whole text) (fraction text) (is_minus (exponent text)) (exponent_digits text)

-- a size with a sign
abbrev pub with_sign : Bool → ℕ → ℤ
with_sign negative n = if negative then neg_ℤ (pos n) else pos n

-- that size with the numeral's sign
abbrev pub signed : List ℕ → ℕ → ℤ
signed text n = with_sign (is_minus text) n

-- ---- the value by the written number

-- The number that a numeral writes is, without its sign, this top over this bottom: the digits' number, times ten to the power
-- of the exponent, less one power of ten for each digit behind the point.
unfoldable pub written_top : List ℕ → ℕ
written_top text = number (whole text ++ fraction text) * (if is_minus (exponent text) then 1 else 10 ^ number (exponent_digits text))

unfoldable pub written_bottom : List ℕ → ℕ
written_bottom text = 10 ^ length (fraction text) * (if is_minus (exponent text) then 10 ^ number (exponent_digits text) else 1)

-- how far apart two numbers are
abbrev pub distance : ℕ → ℕ → ℕ
distance a b = (a - b) + (b - a)

-- No whole number is nearer to the fraction than n is, and each other that is as near is less.
pub record IsNearest (top bottom n : ℕ) : Type 0 where
  pub least : (m : ℕ) → distance (n * bottom) top ≤ distance (m * bottom) top
  pub greatest : (m : ℕ) → distance (m * bottom) top ≡ distance (n * bottom) top → m ≤ n

-- n is the whole number nearest to the written number times 10 to the power of places; of two that are as near, the one farther
-- from zero
pub record IsRounded (places : ℕ) (text : List ℕ) (n : ℤ) : Type 0 where
  pub sign : n ≡ signed text (unsigned_abs n)
  pub size : IsNearest (written_top text * 10 ^ places) (written_bottom text) (unsigned_abs n)

-- n is the written number times 10 to the power of places, and nothing was rounded
pub record IsExact (places : ℕ) (text : List ℕ) (n : ℤ) : Type 0 where
  pub sign : n ≡ signed text (unsigned_abs n)
  pub size : unsigned_abs n * written_bottom text ≡ written_top text * 10 ^ places

-- ---- what reading answers

-- a fault's own number among the faults of a numeral
abbrev pub fault_number : NumeralFault → ℕ
fault_number faults.Empty = 1
fault_number faults.TooLong = 2
fault_number (faults.BadByte place) = 3
fault_number faults.TooLarge = 4

-- the value times 10 to the power of places, or the first fault; above most in size it is too large
unfoldable pub number_of : ℕ → ℕ → List ℕ → Result ℤ NumeralFault
number_of places most text =
    if length text == 0 then Err faults.Empty else
    (if nat_lt 64 (length text) then Err faults.TooLong else
    (if not (is_numeral text) then Err (faults.BadByte (reach phases.Start text)) else
    (if nat_lt most (magnitude places text) then Err faults.TooLarge else
    Ok (signed text (magnitude places text)))))

-- cents: two places, at most 10^15 in size
unfoldable pub cents_of : List ℕ → Result Cents NumeralFault
cents_of text = result_map_both (λ n. record { 0 = n }) (λ e. e) (number_of 2 (10 ^ 15) text)

-- rates: four places, at most 10^12 in size
unfoldable pub rate4_of : List ℕ → Result Rate4 NumeralFault
rate4_of text = result_map_both (λ n. record { 0 = n }) (λ e. e) (number_of 4 (10 ^ 12) text)

-- the exact value of a numeral without an exponent and with at most so many digits behind the point
abbrev pub fixed_value : ℕ → List ℕ → ℕ
fixed_value places text = number (whole text ++ fraction text) * 10 ^ (places - length (fraction text))

-- a numeral of at most 64 bytes without an exponent, with at most so many digits behind the point: its exact value in units of
-- that last place, where that is at most 10^12 in size
unfoldable pub fixed_of : ℕ → List ℕ → Option ℤ
fixed_of places text =
    if nat_le (length text) 64 && is_numeral text && (length (after_mantissa text) == 0) && nat_le (length (fraction text)) places && nat_le (fixed_value places text) (10 ^ 12)
    then Some (signed text (fixed_value places text)) else None

-- the text is such a number
pub record IsFixed (places : ℕ) (text : List ℕ) : Type 0 where
  pub short : length text ≤ 64
  pub numeral : IsNumeral text
  pub no_exponent : length (after_mantissa text) ≡ 0
  pub few : length (fraction text) ≤ places
  pub small : fixed_value places text ≤ 10 ^ 12

-- ---- the answer by the written grammar

-- the nearest whole number is above most in size
pub record IsTooLarge (places most : ℕ) (text : List ℕ) : Type 0 where
  pub size : ℕ
  pub nearest : IsNearest (written_top text * 10 ^ places) (written_bottom text) size
  pub large : most < size

-- The fault is the first that holds. Without one the text is a numeral, and its parts are those of the grammar.
abbrev pub IsAnswer : {A : Type 0} → ℕ → ℕ → List ℕ → Result A NumeralFault → Type 0
IsAnswer places most text (Ok a) = (length text ≤ 64) × IsNumeral text × IsApart text
IsAnswer places most text (Err faults.Empty) = text ≡ []
IsAnswer places most text (Err faults.TooLong) = 64 < length text
IsAnswer places most text (Err (faults.BadByte place)) = (0 < length text) × (length text ≤ 64) × (¬ IsNumeral text) × IsLongestFront text place
IsAnswer places most text (Err faults.TooLarge) = (length text ≤ 64) × IsNumeral text × IsTooLarge places most text

-- What is read of a text by the written grammar, as a number that is seen so: the first fault that holds, or the number nearest
-- to the written one, at most most in size.
abbrev pub IsReading : {A : Type 0} → (A → ℤ) → ℕ → ℕ → List ℕ → Result A NumeralFault → Type 0
IsReading view places most text r = IsAnswer places most text r × IfOk r (λ a. IsRounded places text (view a) × (unsigned_abs (view a) ≤ most))

-- the same of a number that is read exactly
abbrev pub IsFixedReading : ℕ → List ℕ → Option ℤ → Type 0
IsFixedReading places text r = MatchOption r (¬ IsFixed places text) (λ n. IsFixed places text × IsExact places text n)
