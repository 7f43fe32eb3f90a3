-- Dates and times of day in words, and the days of the calendar.
use Rattle.std.specs.Prelude.{ℕ, ◌+◌, ◌-◌, ◌*◌, ◌<◌, Bool, ◌&&◌, ◌==◌, nat_le, nat_lt, List, [], ◌∷◌, length, slice_index, slice_range, Option, Some, None, option_and_then, ℤ, pos, neg_ℤ, ◌≤ℤ◌, if◌then◌else◌}
use Rattle.std.specs.Char.{is_ascii_digit}
use Rattle.jiff.specs.Words.{days_in_month}
use Rattle.jiff_core.specs.Calendar.{days_from_civil}
use Rattle.iso_dates.specs.declared.date.DateNumbers.{DateNumbers}

infixl 10 ◌>>=◌
abbrev pub ◌>>=◌ : {A B : Type 0} → Option A → (A → Option B) → Option B
o >>= f = option_and_then f o

-- the number that digits write, behind a number that stands before them
abbrev pub digits_from : ℕ → List ℕ → Option ℕ
digits_from n [] = Some n
digits_from n (b ∷ bs) = if is_ascii_digit b then digits_from (10 * n + (b - 48)) bs else None

-- the number that a text of digits writes
abbrev pub number_in : List ℕ → Option ℕ
number_in text = digits_from 0 text

-- the minute of the day, from midnight
abbrev pub minute_of_day : ℕ → ℕ → Option ℕ
minute_of_day hour minute = if nat_lt hour 24 && nat_lt minute 60 then Some (hour * 60 + minute) else None

-- HH:MM
unfoldable pub minute_in : List ℕ → Option ℕ
minute_in text =
    if (length text == 5) && (slice_index text 2 == 58)
    then (do
      hour ← number_in (slice_range text 0 2)
      minute ← number_in (slice_range text 3 5)
      minute_of_day hour minute)
    else None

-- the calendar has the date, in the year 1 or later
abbrev pub is_date : ℕ → ℕ → ℕ → Bool
is_date year month day =
    nat_le 1 year && (nat_le 1 month && (nat_le month 12 && (nat_le 1 day && nat_le day (days_in_month (pos year) month))))

-- the date's day, counted from 1970-01-01
abbrev pub day_of_date : ℕ → ℕ → ℕ → Option ℤ
day_of_date year month day = if is_date year month day then Some (days_from_civil (pos year) month day) else None

-- the numbers of YYYY-MM-DD
unfoldable pub numbers_in : List ℕ → Option DateNumbers
numbers_in text =
    if (length text == 10) && ((slice_index text 4 == 45) && (slice_index text 7 == 45))
    then (do
      year ← number_in (slice_range text 0 4)
      month ← number_in (slice_range text 5 7)
      day ← number_in (slice_range text 8 10)
      Some (record { year = year; month = month; day = day }))
    else None

-- the day of YYYY-MM-DD
unfoldable pub date_in : List ℕ → Option ℤ
date_in text = do
  date ← numbers_in text
  day_of_date date.year date.month date.day

-- four digits and twice two
pub record IsInDigits (date : DateNumbers) : Type 0 where
  pub year : date.year < 10000
  pub month : date.month < 100
  pub day : date.day < 100

-- a day from 0001-01-01 to 9999-12-31
pub record IsCalendarDay (day : ℤ) : Type 0 where
  pub low : neg_ℤ (pos 719162) ≤ℤ day
  pub high : day ≤ℤ pos 2932896
