-- Moments and days as text.
use Rattle.std.specs.Prelude.{ℕ, ◌+◌, ◌/◌, ◌%◌, ◌==◌, Bool, ◌&&◌, List, ◌++◌, length, slice_index, slice_range, Option, Some, None, ℤ, pos, ◌-ℤ◌, int_le, unsigned_abs, codes, if◌then◌else◌}
use Rattle.std.specs.Fmt.{signed_decimal}
use Rattle.jiff_core.specs.Calendar.{days_from_civil, days_in_month}
use Rattle.jiff_fmt.specs.Text.{pad2, pad4}
use Rattle.toml_values.specs.MhUnits.Least.{first_from}
use Rattle.csa_terms.specs.Calendar.{Moment}
use Rattle.iso_dates.specs.Dates.{◌>>=◌, date_in, minute_in}

-- YYYY-MM-DDTHH:MM
unfoldable pub moment_of : List ℕ → Option Moment
moment_of text =
    if (length text == 16) && (slice_index text 10 == 84)
    then (do
      day ← date_in (slice_range text 0 10)
      minute ← minute_in (slice_range text 11 16)
      Some (record { day = day; minute = minute }))
    else None

-- ---- in print

-- the day's year is 1 to 9999
abbrev pub has_date : ℤ → Bool
has_date day = int_le (days_from_civil (pos 1) 1 1) day && int_le day (days_from_civil (pos 9999) 12 31)

-- the first year that doesn't end before the day
unfoldable pub year_of : ℤ → ℕ
year_of day = first_from (λ year. int_le day (days_from_civil (pos year) 12 31)) 9999 0

-- how many months of the year end before the day
unfoldable pub months_before : ℤ → ℕ → ℕ
months_before year_day year =
    first_from (λ months. int_le year_day (days_from_civil (pos year) (months + 1) (days_in_month (pos year) (months + 1)))) 11 0

-- YYYY-MM-DD
abbrev pub date_text : ℕ → ℕ → ℕ → List ℕ
date_text year month day = pad4 year ++ (codes "-" ++ (pad2 month ++ (codes "-" ++ pad2 day)))

-- the date of a day that has this year, in its month
abbrev pub text_in_month : ℤ → ℕ → ℕ → List ℕ
text_in_month day year month = date_text year month (unsigned_abs (day -ℤ days_from_civil (pos year) month 1) + 1)

abbrev pub text_in_year : ℤ → ℕ → List ℕ
text_in_year day year = text_in_month day year (months_before day year + 1)

-- the day's date, or its number, counted from 1970-01-01, where its year isn't 1 to 9999
unfoldable pub day_text : ℤ → List ℕ
day_text day = if has_date day then text_in_year day (year_of day) else signed_decimal day

-- the day, and the time of day: T, hours, a colon, and minutes
unfoldable pub moment_text : Moment → List ℕ
moment_text moment =
    day_text moment.day ++ (codes "T" ++ (pad2 (moment.minute / 60) ++ (codes ":" ++ pad2 (moment.minute % 60))))
