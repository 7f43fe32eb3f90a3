-- The days of the years 1 to 9000.
use Rattle.std.proofs.Common.{rules, ◌↔◌, ◌⊎◌, ⊎_elim, inl, inr, ℕ, ◌≤◌, ◌<◌, ℤ, pos, negsuc, ◌≤ℤ◌, ◌<ℤ◌, arith}
use Rattle.std.proofs.lemmas.Bool.{cases_lt}
use Rattle.std.proofs.lemmas.Int.{ints}
use Rattle.jiff.specs.Words.{IsBetween}
use Rattle.jiff_core.specs.Calendar.{days_from_civil, IsCivilDate}
use Rattle.jiff_core.specs.declared.civil.date.Date.{Date}
use Rattle.jiff_core.proofs.CalendarLemmas.{days_in_month_bounds}
use Rattle.jiff_core.proofs.DateLemmas.{epoch_day-lt, epoch_day_same, cases_date}
use Rattle.csa_terms.specs.Calendar.{IsCallingDay}
use Rattle.iso_dates.proofs.DateDays.{first_day, first_date, calendar-from}
use Rattle.csa_terms.proofs.BusinessDays.{last_day}

last_date : Date
last_date = record { year = pos 9000; month = 12; day = 31; year_in = search rules; month_in = search rules; day_in = search rules }

abbrev pub date_of : (y : ℤ) (m d : ℕ) → IsCivilDate y m d → Date
date_of y m d h = record { year = y; month = m; day = d; year_in = h.0; month_in = h.1; day_in = h.2 }

pub cases_below : (a b : ℤ) → (a <ℤ b) ⊎ (b ≤ℤ a)
cases_below (pos a) (pos b) = ⊎_elim (λ (h : a < b). inl (omega (arith, ints))) (λ (h : b ≤ a). inr (omega (arith, ints))) (cases_lt a b)
cases_below (pos a) (negsuc b) = inr (omega (arith, ints))
cases_below (negsuc a) (pos b) = inl (omega (arith, ints))
cases_below (negsuc a) (negsuc b) = ⊎_elim (λ (h : b < a). inl (omega (arith, ints))) (λ (h : a ≤ b). inr (omega (arith, ints))) (cases_lt b a)

-- a date whose day lies between those of 0001-01-01 and 9000-12-31 has such a year
year-from : (y : ℤ) (m d : ℕ) → IsCivilDate y m d → IsCallingDay (days_from_civil y m d) → IsBetween (pos 1) (pos 9000) y
unfolding first_date last_date
year-from y m d h within =
    let low = within.0 in
    let high = within.1 in (
      ⊎_elim (λ (before : y <ℤ pos 1). let less = epoch_day-lt (date_of y m d h) first_date (inl before) in absurd (omega (arith, ints))) (λ (from : pos 1 ≤ℤ y). from) (cases_below y (pos 1)),
      ⊎_elim (λ (behind : pos 9000 <ℤ y). let less = epoch_day-lt last_date (date_of y m d h) (inl behind) in absurd (omega (arith, ints))) (λ (to : y ≤ℤ pos 9000). to) (cases_below (pos 9000) y),
    )

-- and a date with such a year has such a day
day-within : (y : ℤ) (m d : ℕ) → IsCivilDate y m d → IsBetween (pos 1) (pos 9000) y → IsCallingDay (days_from_civil y m d)
unfolding last_date
day-within y m d h within =
    let from = calendar-from (date_of y m d h) within.0 in
    let first = first_day in
    let last = last_day in (
      omega (arith, ints, from.low),
      elim (cases_date (date_of y m d h) last_date) [
        | inl before ↦ let less = epoch_day-lt (date_of y m d h) last_date before in omega (arith, ints)
        | inr (inl after) ↦ elim after [
          | inl year ↦ let high = within.1 in absurd (omega (arith, ints))
          | inr (year, inl month) ↦ let high = h.1.1 in absurd (omega arith)
          | inr (year, inr day) ↦ let high = h.2.1 in let long = days_in_month_bounds y m in let less = day.1 in absurd (omega arith)
        ]
        | inr (inr same) ↦ let equal = epoch_day_same (date_of y m d h) last_date same.0 same.1 same.2 in omega (arith, ints)
      ],
    )

pub in_years : (y : ℤ) (m d : ℕ) → IsCivilDate y m d → IsCallingDay (days_from_civil y m d) ↔ IsBetween (pos 1) (pos 9000) y
in_years y m d h = (year-from y m d h, day-within y m d h)
