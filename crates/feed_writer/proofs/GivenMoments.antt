-- A moment that is read has a date of the years 1 to 9999, and a minute of the day.
use Rattle.std.proofs.Common.{◌≡◌, ℕ, ◌+◌, ◌-◌, ◌*◌, ◌<◌, ◌≤◌, arith, Bool, true, false, ◌&&◌, ◌==◌, nat_le, nat_lt, cond, List, [], ◌∷◌, length, Option, Some, None, ℤ, pos, ◌≤ℤ◌, int_le, slice_index, slice_range, refl, subst}
use Rattle.std.specs.Char.{is_ascii_digit}
use Rattle.std.proofs.lemmas.Bool.{and_parts, and_from, eqb-true, leb-true, ltb-true}
use Rattle.std.proofs.lemmas.Int.{ints}
use Rattle.std.proofs.lemmas.Option.{none-some, same_Some, cond_some, option_and_then_some}
use Rattle.jiff_core.specs.Calendar.{days_from_civil, days_in_month}
use Rattle.jiff_core.specs.declared.civil.date.Date.{Date}
use Rattle.jiff_core.proofs.DateLemmas.{days_from_civil-max}
use Rattle.feed_reader.specs.CsaTerms.Calendar.{Moment}
use Rattle.feed_reader.specs.CsaTerms.Moments.{moment_of, has_date}
use Rattle.feed_reader.specs.Fields.{first}
use Rattle.iso_dates.specs.declared.date.DateNumbers.{DateNumbers}
use Rattle.iso_dates.specs.Dates.{digits_from, number_in, minute_in, is_date, numbers_in, date_in}
use Rattle.iso_dates.proofs.DateDays.{first_day, calendar-from}
use Rattle.feed_writer.proofs.Moments.{le_test}
use Rattle.feed_writer.proofs.GivenFields.{first_is}

-- what a test let pass
passed : {A : Type 0} (b : Bool) (o : Option A) (v : A) → cond b o None ≡ Some v → (b ≡ true) × (o ≡ Some v)
passed true o v e = (refl, e)
passed false o v e = absurd (none-some v e)

-- ---- four digits

step : (n b : ℕ) (bs : List ℕ) (v : ℕ) → digits_from n (b ∷ bs) ≡ Some v → (48 ≤ b) × (b ≤ 57) × (digits_from (10 * n + (b - 48)) bs ≡ Some v)
step n b bs v e =
    let both = passed (is_ascii_digit b) (digits_from (10 * n + (b - 48)) bs) v e in
    let parts = and_parts (nat_le 48 b) (nat_le b 57) both.0 in
    (leb-true 48 b parts.0, leb-true b 57 parts.1, both.1)

four_small : (text : List ℕ) (v : ℕ) → length text ≡ 4 → number_in text ≡ Some v → v < 10000
four_small (a ∷ b ∷ c ∷ d ∷ []) v long e =
    let one = step 0 a (b ∷ c ∷ d ∷ []) v e in
    let two = step (10 * 0 + (a - 48)) b (c ∷ d ∷ []) v one.2 in
    let three = step (10 * (10 * 0 + (a - 48)) + (b - 48)) c (d ∷ []) v two.2 in
    let four = step (10 * (10 * (10 * 0 + (a - 48)) + (b - 48)) + (c - 48)) d [] v three.2 in
    let same : 10 * (10 * (10 * (10 * 0 + (a - 48)) + (b - 48)) + (c - 48)) + (d - 48) ≡ v = same_Some _ v four.2 in
    omega (arith, same, one.1, two.1, three.1, four.1)
four_small _ v long e = absurd (omega (arith, long))

-- ---- dates

front_long : (text : List ℕ) → length text ≡ 10 → length (slice_range text 0 4) ≡ 4
front_long (a ∷ b ∷ c ∷ d ∷ more) long = refl
front_long _ long = absurd (omega (arith, long))

year_small : (text : List ℕ) (date : DateNumbers) → numbers_in text ≡ Some date → date.year < 10000
unfolding numbers_in
year_small text date e =
    let tests = passed ((length text == 10) && ((slice_index text 4 == 45) && (slice_index text 7 == 45))) _ date e in
    let long = eqb-true (length text) 10 (and_parts (length text == 10) ((slice_index text 4 == 45) && (slice_index text 7 == 45)) tests.0).0 in
    option_and_then_some _ (number_in (slice_range text 0 4)) date tests.1 λ year reads rest₁.
    option_and_then_some _ (number_in (slice_range text 5 7)) date rest₁ λ month _ rest₂.
    option_and_then_some _ (number_in (slice_range text 8 10)) date rest₂ λ day _ same.
    subst (λ (d : DateNumbers). d.year < 10000) (same_Some _ date same) (four_small (slice_range text 0 4) year (front_long text long) reads)

dated : (year month day : ℕ) → year < 10000 → is_date year month day ≡ true → has_date (days_from_civil (pos year) month day) ≡ true
dated year month day few is =
    let one = and_parts (nat_le 1 year) (nat_le 1 month && (nat_le month 12 && (nat_le 1 day && nat_le day (days_in_month (pos year) month)))) is in
    let two = and_parts (nat_le 1 month) (nat_le month 12 && (nat_le 1 day && nat_le day (days_in_month (pos year) month))) one.1 in
    let three = and_parts (nat_le month 12) (nat_le 1 day && nat_le day (days_in_month (pos year) month)) two.1 in
    let four = and_parts (nat_le 1 day) (nat_le day (days_in_month (pos year) month)) three.1 in
    let y = leb-true 1 year one.0 in
    let m = leb-true 1 month two.0 in
    let n = leb-true month 12 three.0 in
    let d = leb-true 1 day four.0 in
    let k = leb-true day (days_in_month (pos year) month) four.1 in
    let date : Date = record { year = pos year; month = month; day = day; year_in = omega (arith, ints); month_in = (m, n); day_in = (d, k) } in
    let low : pos 1 ≤ℤ pos year = omega (arith, ints) in
    let calendar = calendar-from date low in
    let first = first_day in
    let last = days_from_civil-max in
    let begins : days_from_civil (pos 1) 1 1 ≤ℤ days_from_civil (pos year) month day = omega (arith, ints, calendar.low) in
    let ends : days_from_civil (pos year) month day ≤ℤ days_from_civil (pos 9999) 12 31 = omega (arith, ints, calendar.high) in
    and_from (int_le (days_from_civil (pos 1) 1 1) (days_from_civil (pos year) month day)) (int_le (days_from_civil (pos year) month day) (days_from_civil (pos 9999) 12 31)) (le_test _ _ begins) (le_test _ _ ends)

date_has : (text : List ℕ) (day : ℤ) → date_in text ≡ Some day → has_date day ≡ true
unfolding date_in
date_has text day e =
    option_and_then_some _ (numbers_in text) day e λ n reads rest.
    let is = cond_some (is_date n.year n.month n.day) (days_from_civil (pos n.year) n.month n.day) day rest in
    subst (λ (x : ℤ). has_date x ≡ true) is.1 (dated n.year n.month n.day (year_small text n reads) is.0)

-- ---- times

minute_small : (text : List ℕ) (minute : ℕ) → minute_in text ≡ Some minute → minute < 1440
unfolding minute_in
minute_small text minute e =
    let tests = passed ((length text == 5) && (slice_index text 2 == 58)) _ minute e in
    option_and_then_some _ (number_in (slice_range text 0 2)) minute tests.1 λ h _ rest₁.
    option_and_then_some _ (number_in (slice_range text 3 5)) minute rest₁ λ m _ rest₂.
    let both = cond_some (nat_lt h 24 && nat_lt m 60) (h * 60 + m) minute rest₂ in
    let small = and_parts (nat_lt h 24) (nat_lt m 60) both.0 in
    omega (arith, both.1, ltb-true h 24 small.0, ltb-true m 60 small.1)

moment_is : (field : List ℕ) (m : Moment) → moment_of field ≡ Some m → (has_date m.day ≡ true) × (m.minute < 1440)
unfolding moment_of
moment_is field m e =
    let tests = passed ((length field == 16) && (slice_index field 10 == 84)) _ m e in
    option_and_then_some _ (date_in (slice_range field 0 10)) m tests.1 λ day of_day rest₁.
    option_and_then_some _ (minute_in (slice_range field 11 16)) m rest₁ λ minute of_minute same.
    subst (λ (x : Moment). (has_date x.day ≡ true) × (x.minute < 1440)) (same_Some _ m same) (date_has (slice_range field 0 10) day of_day, minute_small (slice_range field 11 16) minute of_minute)

pub first_moment : (fields : List (List ℕ)) (v : Moment × List (List ℕ)) → first moment_of fields ≡ Some v → (has_date v.0.day ≡ true) × (v.0.minute < 1440)
first_moment fields v e =
    let is = first_is moment_of fields v e in
    moment_is is.field v.0 is.value
