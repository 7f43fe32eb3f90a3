-- The day on which a trade ends, and how far it is away.
use Rattle.std.specs.Prelude.{◌≡◌, ℕ, ◌+◌, ◌<◌, ◌==◌, nat_le, nat_lt, Bool, true, List, Option, Some, None, if◌then◌else◌}
use Rattle.iso_dates.specs.declared.date.DateNumbers.{DateNumbers}
use Rattle.iso_dates.specs.Dates.{◌>>=◌, numbers_in, is_date}

-- a day of the calendar in the years 1 to 9999
pub record IsEndDate (date : DateNumbers) : Type 0 where
  pub year : date.year < 10000
  pub real : is_date date.year date.month date.day ≡ true

-- YYYY-MM-DD of a day that the calendar has, in the years 1 to 9999
unfoldable pub end_date_of : List ℕ → Option DateNumbers
end_date_of text = do
  date ← numbers_in text
  if is_date date.year date.month date.day then Some date else None

-- the end isn't behind the day so many years later, by year, month and day, compared in this order
abbrev pub is_up_to : DateNumbers → DateNumbers → ℕ → Bool
is_up_to end start years =
    if end.year == start.year + years
    then (if end.month == start.month then nat_le end.day start.day else nat_lt end.month start.month)
    else nat_lt end.year (start.year + years)
