-- The year, the month and the day of a date, found from its day's number.
use Rattle.std.proofs.Common.{lit≤, ◌≡◌, ℕ, ◌+◌, ◌-◌, ◌≤◌, ◌<◌, Bool, true, false, ◌&&◌, ℤ, pos, negsuc, neg_ℤ, ◌≤ℤ◌, ◌<ℤ◌, ◌-ℤ◌, int_le, unsigned_abs, ⊎_elim, inl, inr, refl, ap, ◌∙◌, arith}
use Rattle.std.specs.Fmt.{signed_decimal}
use Rattle.std.proofs.lemmas.Int.{ints}
use Rattle.std.proofs.lemmas.Bool.{cases_lt}
use Rattle.jiff_core.specs.Calendar.{days_from_civil, days_in_month, IsCivilDate}
use Rattle.jiff_core.specs.Date.{epoch_day}
use Rattle.jiff_core.specs.declared.civil.date.Date.{Date}
use Rattle.jiff_core.proofs.CalendarLemmas.{days_in_month_bounds}
use Rattle.jiff_core.proofs.DateLemmas.{civil, epoch_day_range, epoch_day-lt, epoch_day_same, cases_date, days_from_civil-day, days_from_civil-max}
use Rattle.jiff_fmt.specs.Text.{date_text as text_of_date}
use Rattle.toml_values.proofs.MhUnits.Least.{least_is, IsLeast_unique}
use Rattle.csa_terms.specs.Moments.{has_date, year_of, months_before, date_text, text_in_year, text_in_month, day_text}
use Rattle.iso_dates.proofs.DateDays.{first_day, calendar-from, before_first}
use Rattle.csa_terms.proofs.CalendarDays.{cases_below, date_of}

le_from : (a b : ℤ) → int_le a b ≡ true → a ≤ℤ b
le_from a b h = grind (arith, ints)

le_test : (a b : ℤ) → a ≤ℤ b → int_le a b ≡ true
le_test a b h = grind (arith, ints)

gt_test : (a b : ℤ) → b <ℤ a → int_le a b ≡ false
gt_test a b h = grind (arith, ints)

-- ---- the parts of a date

abbrev last_of_year : (year : ℕ) → year ≤ 9999 → Date
last_of_year year most = record { year = pos year; month = 12; day = 31; year_in = (omega (arith, ints), omega (arith, ints)); month_in = (lit≤ tt, lit≤ tt); day_in = (lit≤ tt, lit≤ tt) }

abbrev last_of_month : (year month : ℕ) → year ≤ 9999 → 1 ≤ month → month ≤ 12 → Date
last_of_month year month most low high =
    let long = days_in_month_bounds (pos year) month in
    record { year = pos year; month = month; day = days_in_month (pos year) month; year_in = (omega (arith, ints), omega (arith, ints)); month_in = (low, high); day_in = (omega arith, omega arith) }

module _ (year month day : ℕ) (first : 1 ≤ year) (h : IsCivilDate (pos year) month day) where
  abbrev number : ℤ
  number = days_from_civil (pos year) month day

  few_years : year ≤ 9999
  few_years = let most = h.0.1 in omega (arith, ints)

  within_year : number ≤ℤ days_from_civil (pos year) 12 31
  within_year =
      let last = last_of_year year few_years in
      let this = date_of (pos year) month day h in
      elim (cases_date last this) [
        | inl before ↦ elim before [
          | inl less ↦ absurd (omega (arith, ints))
          | inr (same, inl less) ↦ let high = h.1.1 in absurd (omega arith)
          | inr (same, inr less) ↦ let high = h.2.1 in let long = days_in_month_bounds (pos year) month in let more = less.1 in absurd (omega arith)
        ]
        | inr (inl after) ↦ let less = epoch_day-lt this last after in omega (arith, ints)
        | inr (inr same) ↦ let equal = epoch_day_same last this same.0 same.1 same.2 in omega (arith, ints)
      ]

  no_year_before : (y : ℕ) → int_le number (days_from_civil (pos y) 12 31) ≡ true → year ≤ y
  no_year_before y t =
      ⊎_elim (λ (below : y < year).
      let few = few_years in
      let less = epoch_day-lt (last_of_year y (omega arith)) (date_of (pos year) month day h) (inl (omega (arith, ints))) in
      let reaches = le_from number (days_from_civil (pos y) 12 31) t in
      absurd (omega (arith, ints))) (λ (above : year ≤ y). above) (cases_lt y year)

  year_is : year_of number ≡ year
  unfolding year_of
  year_is =
      let passes : ℕ → Bool = λ y. int_le number (days_from_civil (pos y) 12 31) in
      let range = epoch_day_range (date_of (pos year) month day h) in
      let end = days_from_civil-max in
      let most : passes 9999 ≡ true = le_test number (days_from_civil (pos 9999) 12 31) (omega (arith, ints, range.1)) in
      IsLeast_unique passes _ year (least_is passes 9999 most) (record {
        enough = le_test number (days_from_civil (pos year) 12 31) within_year;
        least = no_year_before;
      })

  within_month : number ≤ℤ days_from_civil (pos year) month (days_in_month (pos year) month)
  within_month =
      let low = h.2.0 in
      let high = h.2.1 in
      let same = days_from_civil-day (pos year) month day (days_in_month (pos year) month) low (omega arith) in
      omega (arith, ints)

  no_month_before : (m : ℕ) → int_le number (days_from_civil (pos year) (m + 1) (days_in_month (pos year) (m + 1))) ≡ true → month - 1 ≤ m
  no_month_before m t =
      ⊎_elim (λ (below : m + 1 < month).
      let high = h.1.1 in
      let less = epoch_day-lt (last_of_month year (m + 1) few_years (omega arith) (omega arith)) (date_of (pos year) month day h) (inr (refl, inl below)) in
      let reaches = le_from number (days_from_civil (pos year) (m + 1) (days_in_month (pos year) (m + 1))) t in
      absurd (omega (arith, ints))) (λ (above : month ≤ m + 1). omega arith) (cases_lt (m + 1) month)

  months_are : months_before number year ≡ month - 1
  unfolding months_before
  months_are =
      let passes : ℕ → Bool = λ m. int_le number (days_from_civil (pos year) (m + 1) (days_in_month (pos year) (m + 1))) in
      let most : passes 11 ≡ true = le_test number (days_from_civil (pos year) 12 31) within_year in
      let low = h.1.0 in
      let next : month - 1 + 1 ≡ month = omega arith in
      let enough : passes (month - 1) ≡ true = rw next (le_test number (days_from_civil (pos year) month (days_in_month (pos year) month)) within_month) in
      IsLeast_unique passes _ (month - 1) (least_is passes 11 most) (record { enough = enough; least = no_month_before })

  day_is : unsigned_abs (number -ℤ days_from_civil (pos year) month 1) + 1 ≡ day
  day_is =
      let low = h.2.0 in
      let same = days_from_civil-day (pos year) month day 1 low (omega arith) in
      let left : number -ℤ days_from_civil (pos year) month 1 ≡ pos (day - 1) = omega (arith, ints) in
      rw left (omega arith)

  dated : has_date number ≡ true
  dated =
      let this = calendar-from (date_of (pos year) month day h) (omega (arith, ints)) in
      let low = this.low in
      let high = this.high in
      let start = first_day in
      let end = days_from_civil-max in
      rw (le_test (days_from_civil (pos 1) 1 1) number (omega (arith, ints)), le_test number (days_from_civil (pos 9999) 12 31) (omega (arith, ints))) refl

  -- the day of a date is printed as that date
  pub text_is : day_text number ≡ date_text year month day
  unfolding day_text
  text_is =
      let low = h.1.0 in
      let next : month - 1 + 1 ≡ month = omega arith in
      rw dated (ap (text_in_year number) year_is ∙ ap (λ m. text_in_month number year (m + 1)) months_are ∙ ap (text_in_month number year) next ∙ ap (date_text year month) day_is)

of_date : (d : Date) (year : ℤ) → d.year ≡ year → pos 1 ≤ℤ year → day_text (epoch_day d) ≡ text_of_date d
of_date d (pos year) is low =
    let h : IsCivilDate (pos year) d.month d.day = rw is at (civil d) in
    rw is (text_is year d.month d.day (omega (arith, ints)) h)
of_date d (negsuc year) is low = absurd (omega (arith, ints))

-- ---- the days of the years 1 to 9999, and the others

pub dated_text : (d : Date) (day : ℤ) → epoch_day d ≡ day → neg_ℤ (pos 719162) ≤ℤ day → day_text day ≡ text_of_date d
dated_text d day is low =
    let from : pos 1 ≤ℤ d.year = ⊎_elim (λ (before : d.year <ℤ pos 1). let less = before_first d before in absurd (omega (arith, ints))) (λ (from : pos 1 ≤ℤ d.year). from) (cases_below d.year (pos 1)) in
    rw (← is) (of_date d d.year refl from)

pub before_text : (day : ℤ) → day <ℤ neg_ℤ (pos 719162) → day_text day ≡ signed_decimal day
unfolding day_text
before_text day less =
    let start = first_day in
    rw (gt_test (days_from_civil (pos 1) 1 1) day (omega (arith, ints))) refl

both_false : (a b : Bool) → b ≡ false → (a && b) ≡ false
both_false true b e = e
both_false false b e = refl

pub behind_text : (day : ℤ) → pos 2932896 <ℤ day → day_text day ≡ signed_decimal day
unfolding day_text
behind_text day more =
    let end = days_from_civil-max in
    let none : has_date day ≡ false = both_false (int_le (days_from_civil (pos 1) 1 1) day) _ (gt_test day (days_from_civil (pos 9999) 12 31) (omega (arith, ints))) in
    rw none refl
