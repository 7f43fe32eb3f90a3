-- Business days after a day: their count rises by one at most, and two come within 820 weeks.
use Rattle.std.proofs.Common.{◌≡◌, ℕ, zero, suc, ◌+◌, ◌-◌, ◌*◌, negsuc, ◌≤ℤ◌, int_lt, unsigned_abs, ◌%◌, ◌≤◌, ◌<◌, Bool, true, false, cond, not, ⊎_elim, le-leb, leb-true, ◌&&◌, ◌||◌, nat_lt, nat_le, List, [], ◌∷◌, length, ℤ, pos, ◌+ℤ◌, ◌<ℤ◌, refl, sym, ap, ◌∙◌, arith}
use Rattle.std.specs.Ordering.{int_eq}
use Rattle.std.proofs.lemmas.Int.{ints}
use Rattle.std.proofs.lemmas.Bool.{false_from_ne_true}
use Rattle.std.proofs.lemmas.Bool.Decides.{Decides-int_eq}
use Rattle.std.proofs.lemmas.Bool.{cases_lt}
use Rattle.jiff_core.specs.Calendar.{weekday_number, days_from_civil}
use Rattle.jiff_core.proofs.SignedLemmas.{signed_arith}
use Rattle.jiff_core.proofs.MarchLemmas.{day_count-late}
use Rattle.toml_values.specs.MhUnits.Least.{first_from, IsLeast}
use Rattle.toml_values.proofs.MhUnits.Least.{least_is}
use Rattle.jiff_core.proofs.CalendarLemmas.{weekday_number-add, weekday_number_bound, days_from_civil-day_count}
use Rattle.csa_terms.specs.Terms.{is_among}
use Rattle.csa_terms.specs.Calendar.{is_business_day, business_days, days_until, IsDueAfter}

abbrev one_if : Bool → ℕ
one_if b = cond b 1 0

one_if-bound : (b : Bool) → one_if b ≤ 1
one_if-bound true = omega arith
one_if-bound false = omega arith

-- ---- the count rises

module _ (holidays : List ℤ) (day : ℤ) where
  pub count-rises : (n k : ℕ) → business_days holidays day n ≤ business_days holidays day (k + n)
  unfolding business_days
  count-rises n zero = let same : 0 + n ≡ n = omega arith in rw same (omega arith)
  count-rises n (suc k) =
      let next : suc k + n ≡ suc (k + n) = omega arith in
      rw next (let less = count-rises n k in omega arith)

  count-next : (n : ℕ) → business_days holidays day (suc n) ≤ business_days holidays day n + 1
  unfolding business_days
  count-next n = let bound = one_if-bound (is_business_day holidays (day +ℤ pos (suc n))) in omega arith

-- ---- weekdays

abbrev is_weekday : ℤ → Bool
is_weekday d = nat_lt (weekday_number d) 5

weekdays : ℤ → ℕ → ℕ
weekdays day zero = 0
weekdays day (suc n) = weekdays day n + one_if (is_weekday (day +ℤ pos (suc n)))

abbrev on : ℕ → ℕ → ℕ
on w k = one_if (nat_lt ((w + k) % 7) 5)

five : (w : ℕ) → w < 7 → on w 1 + on w 2 + on w 3 + on w 4 + on w 5 + on w 6 + on w 7 ≡ 5
five zero h = refl
five (suc zero) h = refl
five (suc (suc zero)) h = refl
five (suc (suc (suc zero))) h = refl
five (suc (suc (suc (suc zero)))) h = refl
five (suc (suc (suc (suc (suc zero))))) h = refl
five (suc (suc (suc (suc (suc (suc zero)))))) h = refl
five (suc (suc (suc (suc (suc (suc (suc w))))))) h = absurd (omega arith)

weekday_later : (day : ℤ) (n k m : ℕ) → m ≡ k + n → one_if (is_weekday (day +ℤ pos m)) ≡ on (weekday_number (day +ℤ pos n)) k
weekday_later day n k m e = ap (λ w. one_if (nat_lt w 5)) (weekday_number-add (day +ℤ pos n) (day +ℤ pos m) k (omega (arith, ints)))

week : (day : ℤ) (n : ℕ) → weekdays day (suc (suc (suc (suc (suc (suc (suc n))))))) ≡ weekdays day n + 5
unfolding weekdays
week day n =
    let all = five (weekday_number (day +ℤ pos n)) (weekday_number_bound (day +ℤ pos n)) in
    let a = weekday_later day n 1 (suc n) (omega arith) in
    let b = weekday_later day n 2 (suc (suc n)) (omega arith) in
    let c = weekday_later day n 3 (suc (suc (suc n))) (omega arith) in
    let d = weekday_later day n 4 (suc (suc (suc (suc n)))) (omega arith) in
    let e = weekday_later day n 5 (suc (suc (suc (suc (suc n))))) (omega arith) in
    let f = weekday_later day n 6 (suc (suc (suc (suc (suc (suc n)))))) (omega arith) in
    let g = weekday_later day n 7 (suc (suc (suc (suc (suc (suc (suc n))))))) (omega arith) in
    rw (a, b, c, d, e, f, g) (omega arith)

weeks : (day : ℤ) (q : ℕ) → weekdays day (q * 7) ≡ q * 5
unfolding weekdays
weeks day zero = refl
weeks day (suc q) =
    let more : suc q * 7 ≡ suc (suc (suc (suc (suc (suc (suc (q * 7))))))) = omega arith in
    rw more (week day (q * 7) ∙ let rest = weeks day q in omega arith)

-- ---- holidays

hits : List ℤ → ℤ → ℕ → ℕ
hits holidays day zero = 0
hits holidays day (suc n) = hits holidays day n + one_if (is_among holidays (day +ℤ pos (suc n)))

hit : ℤ → ℤ → ℕ → ℕ
hit h day zero = 0
hit h day (suc n) = hit h day n + one_if (int_eq (day +ℤ pos (suc n)) h)

either : (a b : Bool) → one_if (a || b) ≤ one_if a + one_if b
either true b = omega arith
either false b = omega arith

hits-cons : (h : ℤ) (hs : List ℤ) (day : ℤ) (n : ℕ) → hits (h ∷ hs) day n ≤ hit h day n + hits hs day n
unfolding hits hit
hits-cons h hs day zero = omega arith
hits-cons h hs day (suc n) =
    let before = hits-cons h hs day n in
    let here = either (int_eq (day +ℤ pos (suc n)) h) (is_among hs (day +ℤ pos (suc n))) in
    omega arith

hits-none : (day : ℤ) (n : ℕ) → hits [] day n ≡ 0
unfolding hits
hits-none day zero = refl
hits-none day (suc n) = let before = hits-none day n in omega arith

hit-none : (h day : ℤ) (n : ℕ) → (day +ℤ pos n) <ℤ h → hit h day n ≡ 0
unfolding hit
hit-none h day zero less = refl
hit-none h day (suc n) less =
    let before = hit-none h day n (omega (arith, ints)) in
    let apart : int_eq (day +ℤ pos (suc n)) h ≡ false = false_from_ne_true _ (λ e. let same = (Decides-int_eq (day +ℤ pos (suc n)) h).0 e in absurd (omega (arith, ints))) in
    rw (before, apart) refl

hit-next : (h day : ℤ) (n : ℕ) (b : Bool) → int_eq (day +ℤ pos (suc n)) h ≡ b → hit h day n ≤ 1 → hit h day n + one_if b ≤ 1
hit-next h day n false e once = omega arith
hit-next h day n true e once =
    let same = (Decides-int_eq (day +ℤ pos (suc n)) h).0 e in
    let before = hit-none h day n (omega (arith, ints)) in omega arith

hit-once : (h day : ℤ) (n : ℕ) → hit h day n ≤ 1
unfolding hit
hit-once h day zero = omega arith
hit-once h day (suc n) = hit-next h day n (int_eq (day +ℤ pos (suc n)) h) refl (hit-once h day n)

hits-few : (hs : List ℤ) (day : ℤ) (n : ℕ) → hits hs day n ≤ length hs
hits-few [] day n = let none = hits-none day n in omega arith
hits-few (h ∷ hs) day n =
    let more = hits-cons h hs day n in let one = hit-once h day n in let rest = hits-few hs day n in omega arith

-- ---- a weekday is a business day or a holiday

open_or_holiday : (a b : Bool) → one_if a ≤ one_if (a && not b) + one_if b
open_or_holiday true true = omega arith
open_or_holiday true false = omega arith
open_or_holiday false b = omega arith

weekdays-split : (hs : List ℤ) (day : ℤ) (n : ℕ) → weekdays day n ≤ business_days hs day n + hits hs day n
unfolding weekdays hits business_days
weekdays-split hs day zero = omega arith
weekdays-split hs day (suc n) =
    let before = weekdays-split hs day n in
    let here = open_or_holiday (is_weekday (day +ℤ pos (suc n))) (is_among hs (day +ℤ pos (suc n))) in
    omega arith

pub two_come : (hs : List ℤ) (day : ℤ) → length hs ≤ 4096 → 2 ≤ business_days hs day 5740
two_come hs day few =
    let all : weekdays day 5740 ≡ 4100 = weeks day 820 in
    let split = weekdays-split hs day 5740 in
    let hit = hits-few hs day 5740 in
    omega arith

-- ---- the walk

-- so many are left, and no earlier day had all
pub record IsOnTheWay (hs : List ℤ) (day : ℤ) (count later left : ℕ) : Type 0 where
  pub counted : business_days hs day later + left ≡ count
  pub least : (m : ℕ) → business_days hs day m ≡ count → later ≤ m
  pub small : later ≤ 5740

pub starts : (hs : List ℤ) (day : ℤ) (count : ℕ) → IsOnTheWay hs day count 0 count
unfolding business_days
starts hs day count = record { counted = omega arith; least = λ m e. omega arith; small = omega arith }

module _ (hs : List ℤ) (day : ℤ) (count later left : ℕ) (few : length hs ≤ 4096) (two : count ≤ 2) (way : IsOnTheWay hs day count later left) (more : 0 < left) where
  pub goes_on : later < 5740
  goes_on =
      let come = two_come hs day few in
      let counted = way.counted in
      ⊎_elim (λ (below : later < 5740). below) (λ (above : 5740 ≤ later).
      let same : (later - 5740) + 5740 ≡ later = omega arith in
      let rises : business_days hs day 5740 ≤ business_days hs day ((later - 5740) + 5740) = count-rises hs day 5740 (later - 5740) in
      let rest : business_days hs day 5740 ≤ business_days hs day later = rw same at rises in
      absurd (omega arith)) (cases_lt later 5740)

  no_earlier : (m : ℕ) → business_days hs day m ≡ count → later + 1 ≤ m
  no_earlier m e =
      let counted = way.counted in
      ⊎_elim (λ (above : later < m). omega arith) (λ (below : m ≤ later).
      let same : (later - m) + m ≡ later = omega arith in
      let rises : business_days hs day m ≤ business_days hs day ((later - m) + m) = count-rises hs day m (later - m) in
      let rest : business_days hs day m ≤ business_days hs day later = rw same at rises in
      absurd (omega arith)) (cases_lt later m)

  pub steps_open : (next : ℤ) → next ≡ day +ℤ pos (later + 1) → true ≡ is_business_day hs next → IsOnTheWay hs day count (later + 1) (left - 1)
  unfolding business_days
  steps_open next e is_open =
      let one : later + 1 ≡ suc later = omega arith in
      let here : is_business_day hs (day +ℤ pos (suc later)) ≡ true = sym (is_open ∙ ap (is_business_day hs) (e ∙ ap (λ n. day +ℤ pos n) one)) in
      let counted = way.counted in
      record {
        counted = rw (one, here) (omega arith);
        least = no_earlier;
        small = let below = goes_on in omega arith;
      }

  pub steps_closed : (next : ℤ) → next ≡ day +ℤ pos (later + 1) → false ≡ is_business_day hs next → IsOnTheWay hs day count (later + 1) left
  unfolding business_days
  steps_closed next e closed =
      let one : later + 1 ≡ suc later = omega arith in
      let here : is_business_day hs (day +ℤ pos (suc later)) ≡ false = sym (closed ∙ ap (is_business_day hs) (e ∙ ap (λ n. day +ℤ pos n) one)) in
      let counted = way.counted in
      record {
        counted = rw (one, here) (omega arith);
        least = no_earlier;
        small = let below = goes_on in omega arith;
      }

-- ---- the least number of days, found from below

-- the first number of days after which at least so many came has just so many
exactly : (hs : List ℤ) (day : ℤ) (count first : ℕ) → count ≤ business_days hs day first → ((m : ℕ) → count ≤ business_days hs day m → first ≤ m) → business_days hs day first ≡ count
unfolding business_days
exactly hs day count zero enough least = omega arith
exactly hs day count (suc first) enough least =
    let next = count-next hs day first in
    ⊎_elim (λ (below : business_days hs day first < count). omega arith) (λ (above : count ≤ business_days hs day first).
    let past = least first above in absurd (omega arith)) (cases_lt (business_days hs day first) count)

-- where so many come, "at least so many" and "so many" have the same least day
pub first_is : (hs : List ℤ) (day : ℤ) (count later : ℕ) → length hs ≤ 4096 → count ≤ 2 → IsDueAfter hs day count later
    → later ≡ days_until hs day count
unfolding days_until
first_is hs day count later few two due =
    let passes : ℕ → Bool = λ n. nat_le count (business_days hs day n) in
    let come = two_come hs day few in
    let found : IsLeast passes (first_from passes 5740 0) = least_is passes 5740 (le-leb _ _ (omega arith)) in
    let first = first_from passes 5740 0 in
    let reached = due.reached in
    let no_later : first ≤ later = found.least later (le-leb _ _ (omega arith)) in
    let enough : count ≤ business_days hs day first = leb-true _ _ found.enough in
    let exact : business_days hs day first ≡ count = exactly hs day count first enough (λ m e. found.least m (le-leb _ _ e)) in
    let no_earlier : later ≤ first = due.least first exact in
    omega arith

-- ---- numbers of days

pub last_day : days_from_civil (pos 9000) 12 31 ≡ pos 2568019
last_day = omega (arith, signed_arith, days_from_civil-day_count (pos 9000) 12 31, day_count-late (pos 9000) 19000 12 31 refl (omega arith) (omega arith) (omega arith))

pub below_five : (z : ℤ) → pos 0 ≤ℤ z → int_lt z (pos 5) ≡ nat_lt (unsigned_abs z) 5
below_five (pos n) low = refl
below_five (negsuc n) low = absurd (omega (arith, ints))
