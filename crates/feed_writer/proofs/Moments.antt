-- A written moment is read as the moment that it was.
use Rattle.std.proofs.Common.{◌≡◌, ℕ, zero, suc, ◌+◌, ◌-◌, ◌*◌, ◌/◌, ◌%◌, ◌≤◌, ◌<◌, arith, Bool, true, false, nat_lt, List, [], ◌∷◌, ◌++◌, codes, Some, ℤ, pos, ◌≤ℤ◌, ◌<ℤ◌, ◌+ℤ◌, ◌-ℤ◌, int_le, unsigned_abs, refl, sym, ap, ◌∙◌}
use Rattle.std.specs.List.{list_all}
use Rattle.std.proofs.lemmas.Bool.{and_parts, le-leb, ne_eqb}
use Rattle.std.proofs.lemmas.List.Folds.{list_all-append}
use Rattle.std.proofs.lemmas.Int.{ints}
use Rattle.jiff_core.specs.Calendar.{days_from_civil, days_in_month}
use Rattle.jiff_core.proofs.CalendarLemmas.{days_in_month_bounds}
use Rattle.jiff_core.proofs.DateLemmas.{days_from_civil-day, days_from_civil-next_month, days_from_civil-next_year}
use Rattle.jiff_fmt.specs.Text.{pad2, pad4}
use Rattle.feed_reader.specs.MhUnits.Least.{IsLeast}
use Rattle.mh_io.proofs.MhUnits.Least.{least_is}
use Rattle.feed_reader.specs.CsaTerms.Calendar.{Moment}
use Rattle.feed_reader.specs.CsaTerms.SimmKinds.NameText.{is_printable}
use Rattle.feed_reader.specs.CsaTerms.Moments.{moment_of, has_date, year_of, months_before, date_text, text_in_year, day_text, moment_text}
use Rattle.iso_dates.specs.declared.date.DateNumbers.{DateNumbers}
use Rattle.iso_dates.specs.Dates.{◌>>=◌, digits_from, number_in, minute_of_day, minute_in, is_date, day_of_date, numbers_in, date_in}
use Rattle.feed_writer.proofs.LineFields.{IsField}

le_from : (a b : ℤ) → int_le a b ≡ true → a ≤ℤ b
le_from a b h = grind (arith, ints)

gt_from : (a b : ℤ) → int_le a b ≡ false → b <ℤ a
gt_from a b h = grind (arith, ints)

pub le_test : (a b : ℤ) → a ≤ℤ b → int_le a b ≡ true
le_test a b h = grind (arith, ints)

-- ---- digits

next_back : (n a : ℕ) (rest : List ℕ) → a < 10 → digits_from n ((48 + a) ∷ rest) ≡ digits_from (10 * n + a) rest
next_back n a rest small =
    let value : 48 + a - 48 ≡ a = omega arith in
    rw (le-leb 48 (48 + a) (omega arith), le-leb (48 + a) 57 (omega arith), value) refl

two_back : (n : ℕ) → n < 100 → number_in (pad2 n) ≡ Some n
two_back n small =
    next_back 0 (n / 10) ((48 + n % 10) ∷ []) (omega arith)
    ∙ (next_back (10 * 0 + n / 10) (n % 10) [] (omega arith)
    ∙ ap (λ (x : ℕ). Some x) (omega arith))

four_back : (n : ℕ) → n < 10000 → number_in (pad4 n) ≡ Some n
four_back n small =
    let a = n / 100 / 10 in
    let b = n / 100 % 10 in
    let c = n % 100 / 10 in
    let d = n % 100 % 10 in
    next_back 0 a ((48 + b) ∷ (48 + c) ∷ (48 + d) ∷ []) (omega arith)
    ∙ (next_back (10 * 0 + a) b ((48 + c) ∷ (48 + d) ∷ []) (omega arith)
    ∙ (next_back (10 * (10 * 0 + a) + b) c ((48 + d) ∷ []) (omega arith)
    ∙ (next_back (10 * (10 * (10 * 0 + a) + b) + c) d [] (omega arith)
    ∙ ap (λ (x : ℕ). Some x) (omega arith))))

-- ---- the parts of a moment

abbrev numbers : ℕ → ℕ → ℕ → DateNumbers
numbers year month day = record { year = year; month = month; day = day }

numbers_back : (year month day : ℕ) → year < 10000 → month < 100 → day < 100 → numbers_in (date_text year month day) ≡ Some (numbers year month day)
unfolding numbers_in
numbers_back year month day y m d =
    ap (λ o. o >>= (λ y. number_in (pad2 month) >>= (λ m. number_in (pad2 day) >>= (λ d. Some (numbers y m d))))) (four_back year y)
    ∙ (ap (λ o. o >>= (λ m. number_in (pad2 day) >>= (λ d. Some (numbers year m d)))) (two_back month m)
    ∙ ap (λ o. o >>= (λ d. Some (numbers year month d))) (two_back day d))

date_back : (year month day : ℕ) → year < 10000 → month < 100 → day < 100 → is_date year month day ≡ true → date_in (date_text year month day) ≡ Some (days_from_civil (pos year) month day)
unfolding date_in
date_back year month day y m d is =
    ap (λ o. o >>= (λ date. day_of_date date.year date.month date.day)) (numbers_back year month day y m d) ∙ rw is refl

abbrev time_text : ℕ → List ℕ
time_text minute = pad2 (minute / 60) ++ (codes ":" ++ pad2 (minute % 60))

time_back : (minute : ℕ) → minute < 1440 → minute_in (time_text minute) ≡ Some minute
unfolding minute_in
time_back minute small =
    let hours : nat_lt (minute / 60) 24 ≡ true = le-leb (suc (minute / 60)) 24 (omega arith) in
    let minutes : nat_lt (minute % 60) 60 ≡ true = le-leb (suc (minute % 60)) 60 (omega arith) in
    let whole : minute / 60 * 60 + minute % 60 ≡ minute = omega arith in
    ap (λ o. o >>= (λ hour. number_in (pad2 (minute % 60)) >>= (λ m. minute_of_day hour m))) (two_back (minute / 60) (omega arith))
    ∙ (ap (λ o. o >>= (λ m. minute_of_day (minute / 60) m)) (two_back (minute % 60) (omega arith))
    ∙ rw (hours, minutes, whole) refl)

-- ---- the date of a day

-- a day with its date
record IsDated (day : ℤ) (year month number : ℕ) : Type 0 where
  few : year < 10000
  is : is_date year month number ≡ true
  month_few : month < 100
  number_few : number < 100
  day_is : days_from_civil (pos year) month number ≡ day

module _ (day : ℤ) (dated : has_date day ≡ true) where
  low : days_from_civil (pos 1) 1 1 ≤ℤ day
  low = le_from (days_from_civil (pos 1) 1 1) day (and_parts (int_le (days_from_civil (pos 1) 1 1) day) (int_le day (days_from_civil (pos 9999) 12 31)) dated).0

  high : day ≤ℤ days_from_civil (pos 9999) 12 31
  high = le_from day (days_from_civil (pos 9999) 12 31) (and_parts (int_le (days_from_civil (pos 1) 1 1) day) (int_le day (days_from_civil (pos 9999) 12 31)) dated).1

  abbrev ends_behind : ℕ → Bool
  ends_behind year = int_le day (days_from_civil (pos year) 12 31)

  year_least : IsLeast ends_behind (year_of day)
  unfolding year_of
  year_least = least_is ends_behind 9999 (le_test day (days_from_civil (pos 9999) 12 31) high)

  -- the year before ends before the day
  begun : (year : ℕ) → year ≡ year_of day → (1 ≤ year) × (days_from_civil (pos year) 1 1 ≤ℤ day)
  begun zero e =
      let enough = le_from day (days_from_civil (pos 0) 12 31) (rw e year_least.enough) in
      let next = days_from_civil-next_year (pos 0) (pos 1) (omega (arith, ints)) refl in
      let from = low in
      absurd (omega (arith, ints))
  begun (suc before) e =
      let early : ends_behind before ≡ false = not_before before (omega (arith, e)) in
      let behind = gt_from day (days_from_civil (pos before) 12 31) early in
      let next = days_from_civil-next_year (pos before) (pos (suc before)) (omega (arith, ints)) (omega (arith, ints)) in
      (omega arith, omega (arith, ints))
    where
      not_before : (y : ℕ) → y < year_of day → ends_behind y ≡ false
      not_before y less = elim (ends_behind y) as (λ b. (b ≡ true → year_of day ≤ y) → b ≡ false) [
        | true ↦ λ least. absurd (let l = least refl in omega arith)
        | false ↦ λ least. refl
      ] (year_least.least y)

  abbrev year : ℕ
  year = year_of day

  abbrev ends_in : ℕ → Bool
  ends_in months = int_le day (days_from_civil (pos year) (months + 1) (days_in_month (pos year) (months + 1)))

  months_least : IsLeast ends_in (months_before day year)
  unfolding months_before
  months_least = least_is ends_in 11 year_least.enough

  month_begun : (months : ℕ) → months ≡ months_before day year → days_from_civil (pos year) (months + 1) 1 ≤ℤ day
  month_begun zero e = (begun year refl).1
  month_begun (suc before) e =
      let early : ends_in before ≡ false = not_before before (omega (arith, e)) in
      let behind = gt_from day (days_from_civil (pos year) (before + 1) (days_in_month (pos year) (before + 1))) early in
      let next = days_from_civil-next_month (pos year) (before + 1) (days_in_month (pos year) (before + 1)) (omega arith) refl in
      let same : before + 1 + 1 ≡ suc before + 1 = omega arith in
      rw (sym same) (omega (arith, ints))
    where
      not_before : (m : ℕ) → m < months_before day year → ends_in m ≡ false
      not_before m less = elim (ends_in m) as (λ b. (b ≡ true → months_before day year ≤ m) → b ≡ false) [
        | true ↦ λ least. absurd (let l = least refl in omega arith)
        | false ↦ λ least. refl
      ] (months_least.least m)

  abbrev month : ℕ
  month = months_before day year + 1

  abbrev number : ℕ
  number = unsigned_abs (day -ℤ days_from_civil (pos year) month 1) + 1

  date_is : IsDated day year month number
  date_is =
      let first = days_from_civil (pos year) month 1 in
      let long = days_in_month (pos year) month in
      let from : first ≤ℤ day = month_begun (months_before day year) refl in
      let to = le_from day (days_from_civil (pos year) month long) months_least.enough in
      let bounds = days_in_month_bounds (pos year) month in
      let few_months : months_before day year ≤ 11 = months_least.least 11 year_least.enough in
      let few_years : year ≤ 9999 = year_least.least 9999 (le_test day (days_from_civil (pos 9999) 12 31) high) in
      let one : 1 ≤ number = omega arith in
      let here = days_from_civil-day (pos year) month number 1 one (omega arith) in
      let last = days_from_civil-day (pos year) month long 1 (omega (arith, bounds.1)) (omega arith) in
      let away : pos number ≡ (day -ℤ first) +ℤ pos 1 = omega (arith, ints, from) in
      let within : number ≤ long = omega (arith, ints, away, last, to) in
      record {
        few = omega (arith, few_years);
        is = rw (le-leb 1 year (begun year refl).0, le-leb 1 month (omega arith), le-leb month 12 (omega (arith, few_months)), le-leb 1 number one, le-leb number long within) refl;
        month_few = omega (arith, few_months);
        number_few = omega (arith, within, bounds.0);
        day_is = omega (arith, ints, away, here);
      }

  pub dated_back : date_in (text_in_year day year) ≡ Some day
  dated_back =
      let d = date_is in
      date_back year month number d.few d.month_few d.number_few d.is ∙ ap (λ (x : ℤ). Some x) d.day_is

-- ---- the moment

-- the text of a day that has a date has ten bytes, and the time stands behind a T
pub moment_back : (moment : Moment) → has_date moment.day ≡ true → moment.minute < 1440 → moment_of (moment_text moment) ≡ Some moment
unfolding moment_of moment_text day_text
moment_back moment dated small =
    rw dated (
    ap (λ o. o >>= (λ day. minute_in (time_text moment.minute) >>= (λ minute. Some (record { day = day; minute = minute })))) (dated_back moment.day dated)
    ∙ ap (λ o. o >>= (λ minute. Some (record { day = moment.day; minute = minute }))) (time_back moment.minute small)
    )

-- ---- what stands in it

digit_prints : (a : ℕ) → a < 10 → is_printable (48 + a) ≡ true
digit_prints a small = rw (le-leb 32 (48 + a) (omega arith), ne_eqb (48 + a) 127 (omega arith)) refl

pad_prints : (n : ℕ) → n < 100 → list_all is_printable (pad2 n) ≡ true
pad_prints n small = rw (digit_prints (n / 10) (omega arith), digit_prints (n % 10) (omega arith)) refl

both_print : (xs ys : List ℕ) → list_all is_printable xs ≡ true → list_all is_printable ys ≡ true → list_all is_printable (xs ++ ys) ≡ true
both_print xs ys first second = list_all-append is_printable xs ys ∙ rw (first, second) refl

date_prints : (year month day : ℕ) → year < 10000 → month < 100 → day < 100 → list_all is_printable (date_text year month day) ≡ true
date_prints year month day y m d =
    let years = both_print (pad2 (year / 100)) (pad2 (year % 100)) (pad_prints (year / 100) (omega arith)) (pad_prints (year % 100) (omega arith)) in
    let days = both_print (codes "-") (pad2 day) refl (pad_prints day d) in
    let months = both_print (pad2 month) (codes "-" ++ pad2 day) (pad_prints month m) days in
    both_print (pad4 year) (codes "-" ++ (pad2 month ++ (codes "-" ++ pad2 day))) years (both_print (codes "-") (pad2 month ++ (codes "-" ++ pad2 day)) refl months)

abbrev clock_text : ℕ → List ℕ
clock_text minute = codes "T" ++ time_text minute

time_prints : (minute : ℕ) → minute < 1440 → list_all is_printable (clock_text minute) ≡ true
time_prints minute small =
    let minutes = both_print (codes ":") (pad2 (minute % 60)) refl (pad_prints (minute % 60) (omega arith)) in
    both_print (codes "T") (time_text minute) refl (both_print (pad2 (minute / 60)) (codes ":" ++ pad2 (minute % 60)) (pad_prints (minute / 60) (omega arith)) minutes)

pub moment_field : (moment : Moment) → has_date moment.day ≡ true → moment.minute < 1440 → IsField 64 (moment_text moment)
unfolding moment_text day_text
moment_field moment dated small =
    let d = date_is moment.day dated in
    let day = date_prints (year moment.day dated) (month moment.day dated) (number moment.day dated) d.few d.month_few d.number_few in
    rw dated (record {
      bytes = both_print (text_in_year moment.day (year_of moment.day)) (clock_text moment.minute) day (time_prints moment.minute small);
      few = omega arith;
    })
