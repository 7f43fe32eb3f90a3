-- Dates from the year 1 on, and their days.
use Rattle.std.proofs.Common.{rules, ◌≡◌, inl, inr, ℕ, ◌≤◌, true, Some, ℤ, pos, neg_ℤ, ◌≤ℤ◌, ◌<ℤ◌, le-leb, refl, arith}
use Rattle.std.proofs.lemmas.Int.{ints}
use Rattle.jiff.specs.Words.{IsDate, IsYmd, epoch_day, days_in_month}
use Rattle.jiff_core.specs.Calendar.{days_from_civil}
use Rattle.jiff_core.specs.declared.civil.date.Date.{Date}
use Rattle.jiff_core.proofs.SignedLemmas.{signed_arith}
use Rattle.jiff_core.proofs.MarchLemmas.{day_count-early}
use Rattle.jiff_core.proofs.CalendarLemmas.{days_from_civil-day_count}
use Rattle.jiff_core.proofs.DateLemmas.{epoch_day_range, epoch_day-lt, epoch_day_same, cases_date}
use Rattle.iso_dates.specs.Dates.{is_date, day_of_date, IsCalendarDay}

pub first_day : days_from_civil (pos 1) 1 1 ≡ neg_ℤ (pos 719162)
first_day = omega (arith, signed_arith, days_from_civil-day_count (pos 1) 1 1, day_count-early (pos 1) 10000 1 1 refl (omega arith) (omega arith) (omega arith))

pub is_date-from : (year month day : ℕ) → 1 ≤ year → IsDate (pos year) (pos month) (pos day) → is_date year month day ≡ true
is_date-from year month day first h =
    let m1 : 1 ≤ month = omega (arith, ints) in
    let m2 : month ≤ 12 = omega (arith, ints) in
    let d1 : 1 ≤ day = omega (arith, ints) in
    let d2 : day ≤ days_in_month (pos year) month = omega (arith, ints) in
    rw (le-leb 1 year first, le-leb 1 month m1, le-leb month 12 m2, le-leb 1 day d1, le-leb day (days_in_month (pos year) month) d2) refl

pub day-from : (year month day : ℕ) (d : Date) → 1 ≤ year → IsDate (pos year) (pos month) (pos day) → IsYmd (pos year) (pos month) (pos day) d → day_of_date year month day ≡ Some (epoch_day d)
day-from year month day d first h ymd =
    let y : d.year ≡ pos year = ymd.0 in
    let m : d.month ≡ month = omega (arith, ints) in
    let k : d.day ≡ day = omega (arith, ints) in
    rw (is_date-from year month day first h, y, m, k) refl

unfoldable pub first_date : Date
first_date = record { year = pos 1; month = 1; day = 1; year_in = search rules; month_in = search rules; day_in = search rules }

pub calendar-from : (d : Date) → pos 1 ≤ℤ d.year → IsCalendarDay (epoch_day d)
unfolding first_date
calendar-from d low =
    let range = epoch_day_range d in
    let first = first_day in
    record {
      low = elim (cases_date first_date d) [
        | inl before ↦ let less = epoch_day-lt first_date d before in omega (arith, ints)
        | inr (inl after) ↦ elim after [
          | inl year ↦ absurd (omega (arith, ints))
          | inr (year, inl month) ↦ let first_month = d.month_in.0 in absurd (omega arith)
          | inr (year, inr day) ↦ let first_of = d.day_in.0 in let less = day.1 in absurd (omega arith)
        ]
        | inr (inr same) ↦ let equal = epoch_day_same first_date d same.0 same.1 same.2 in omega (arith, ints)
      ];
      high = range.1;
    }

-- a date of a year before 1 comes before 0001-01-01
pub before_first : (d : Date) → d.year <ℤ pos 1 → epoch_day d <ℤ neg_ℤ (pos 719162)
unfolding first_date
before_first d before = let first = first_day in let less = epoch_day-lt d first_date (inl before) in omega (arith, ints)
