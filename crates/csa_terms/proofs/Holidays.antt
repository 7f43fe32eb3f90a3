-- The holidays of an array's places, each once and in order.
use Rattle.std.proofs.Common.{◌≡◌, ℕ, ◌+◌, ◌<◌, ◌≤◌, List, [], ◌∷◌, length, get_or, drop, Less, Equal, Greater, Bool, Result, Ok, Err, Some, ℤ, refl, sym, ap, ◌∙◌, arith}
use Rattle.std.specs.BTreeSet.{insert_key}
use Rattle.std.specs.List.{AllByRecursion}
use Rattle.std.specs.declared.cmp.Ordering.{Ordering}
use Rattle.std.specs.Ordering.{int_cmp, match_ordering}
use Rattle.std.proofs.lemmas.List.{drop_all}
use Rattle.toml.specs.Data.{item}
use Rattle.toml.specs.View.{view, items_view}
use Rattle.toml.specs.declared.value.Value.{Value}
use Rattle.toml.proofs.Views.{items_view-drop}
use Rattle.csa_terms.specs.declared.fault.TermsFault.{TermsFault}
use Rattle.iso_dates.specs.Dates.{IsCalendarDay}
use Rattle.csa_terms.specs.Terms.{AreHolidays}
use Rattle.toml_values.specs.Answers.{◌>>=◌, Unless}
use Rattle.toml_values.proofs.Places.{Unless-from}
use Rattle.csa_terms.specs.Values.{date_of}
use Rattle.csa_terms.specs.Paths.{holiday_path}
use Rattle.csa_terms.specs.Grammar.{holidays_from}

-- ---- a day more

abbrev pub with_day : List ℤ → ℤ → List ℤ
with_day days day = insert_key int_cmp days day

pub length-with_day : (days : List ℤ) (day : ℤ) → length (with_day days day) ≤ length days + 1
length-with_day [] day = omega arith
length-with_day (d ∷ ds) day = by (int_cmp day d) (length-with_day ds day)
  where
    by : (o : Ordering) → length (with_day ds day) ≤ length ds + 1 → length (match_ordering o (day ∷ d ∷ ds) (d ∷ ds) (d ∷ with_day ds day)) ≤ length (d ∷ ds) + 1
    by Less rest = omega arith
    by Equal rest = omega arith
    by Greater rest = omega arith

calendar-with_day : (days : List ℤ) (day : ℤ) → AllByRecursion IsCalendarDay days → IsCalendarDay day → AllByRecursion IsCalendarDay (with_day days day)
calendar-with_day [] day h is = (is, tt)
calendar-with_day (d ∷ ds) day h is = by (int_cmp day d) (calendar-with_day ds day h.1 is)
  where
    by : (o : Ordering) → AllByRecursion IsCalendarDay (with_day ds day) → AllByRecursion IsCalendarDay (match_ordering o (day ∷ d ∷ ds) (d ∷ ds) (d ∷ with_day ds day))
    by Less rest = (is, h)
    by Equal rest = h
    by Greater rest = (h.0, rest)

pub holidays-with_day : (days : List ℤ) (day : ℤ) → length days < 4096 → AreHolidays days → IsCalendarDay day → AreHolidays (with_day days day)
holidays-with_day days day room h is = record {
  few = let more = length-with_day days day in omega arith;
  calendar = calendar-with_day days day h.calendar is;
}

-- ---- the places

-- what is left of an array, behind the days so far, gives what the whole array gives
pub record DaysSoFar (set : ℕ) (days : List ℤ) (i : ℕ) (vs : List Value) : Type 0 where
  pub value : holidays_from set days (i + 1) (items_view (drop i vs)) ≡ holidays_from set [] 1 (items_view vs)
  pub count : length days ≤ i

pub days_begin : (set : ℕ) (vs : List Value) → DaysSoFar set [] 0 vs
days_begin set vs = record { value = refl; count = omega arith }

module _ (set : ℕ) (days : List ℤ) (i : ℕ) (vs : List Value) (so_far : DaysSoFar set days i vs) where
  abbrev rest : ℤ → Result (List ℤ) TermsFault
  rest day = holidays_from set (with_day days day) (i + 1 + 1) (items_view (drop (i + 1) vs))

  place : (x : Value) → i < length vs → x ≡ get_or vs i x → holidays_from set days (i + 1) (items_view (drop i vs)) ≡ (date_of (holiday_path set (i + 1)) (Some (view x)) >>= rest)
  unfolding holidays_from
  place x lt at = ap (holidays_from set days (i + 1)) (items_view-drop vs i x lt ∙ ap (λ v. item (view v) (items_view (drop (i + 1) vs))) (sym at))

  pub day_goes_on : (x : Value) (day : ℤ) → i < length vs → x ≡ get_or vs i x → date_of (holiday_path set (i + 1)) (Some (view x)) ≡ Ok day → DaysSoFar set (with_day days day) (i + 1) vs
  day_goes_on x day lt at h =
      let one : holidays_from set days (i + 1) (items_view (drop i vs)) ≡ rest day = place x lt at ∙ ap (λ r. r >>= rest) h in
      let count = so_far.count in
      let more = length-with_day days day in
      record { value = sym one ∙ so_far.value; count = omega arith }

  pub day_ends : (b : Bool) (e : TermsFault) (x : Value) → i < length vs → x ≡ get_or vs i x → Unless b (date_of (holiday_path set (i + 1)) (Some (view x)) ≡ Err e) → Unless b (holidays_from set [] 1 (items_view vs) ≡ Err e)
  day_ends b e x lt at h = Unless-from b (λ is. sym so_far.value ∙ place x lt at ∙ ap (λ r. r >>= rest) is) h

  pub days_done : length vs ≤ i → holidays_from set [] 1 (items_view vs) ≡ Ok days
  unfolding holidays_from
  days_done le =
      let none : drop i vs ≡ [] = drop_all i vs le in
      sym so_far.value ∙ ap (λ (l : List Value). holidays_from set days (i + 1) (items_view l)) none
