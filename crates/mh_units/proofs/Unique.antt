-- Each text has one reading by the written grammar.
use Rattle.std.proofs.Common.{◌≡◌, ◌≢◌, ◌↔◌, ℕ, ◌*◌, ◌/◌, ◌^◌, ◌<◌, ◌≤◌, Bool, true, false, cond, List, length, ℤ, unsigned_abs, refl, sym, ap, ◌∙◌, subst, arith, true≢false, IfOk, Option, Some, None, Result, Ok, Err}
use Rattle.std.proofs.Math.Nat.{le_antisymm, mul-pos, mul-div_cancel}
use Rattle.std.specs.Result.{result_map_both}
use Rattle.mh_units.specs.declared.numeral.NumeralFault.{NumeralFault}
use Rattle.mh_units.specs.declared.numeral.NumeralFault.TheVariants as faults
use Rattle.mh_units.specs.declared.scan.Phase.TheVariants as phases
use Rattle.mh_units.specs.declared.quantities.Cents.{Cents}
use Rattle.mh_units.specs.declared.quantities.Rate4.{Rate4}
use Rattle.mh_units.specs.Grammar.{IsNumeral, IsLongestFront}
use Rattle.mh_units.specs.Scan.{is_numeral, reach}
use Rattle.mh_units.specs.Numeral.{number_of, cents_of, rate4_of, fixed_of, magnitude, signed, is_minus, number, exponent, exponent_digits, fraction, written_top, written_bottom, IsNearest, IsRounded, IsExact, IsReading, IsFixedReading}
use Rattle.mh_units.proofs.Numbers.{ten_positive}
use Rattle.mh_units.proofs.Scans.{numeral_is}
use Rattle.mh_units.proofs.Fronts.{numeral_from, reach_is_longest}
use Rattle.mh_units.proofs.Answers.{empty_is, long_is, bad_is, large_is, value_is, nil_of}
use Rattle.mh_units.proofs.Written.{Told, cents_told, rate4_told, magnitude_nearest, exact_answer}

-- ---- the scan

pub numeral_ends : (text : List ℕ) → (is_numeral text ≡ true) ↔ IsNumeral text
numeral_ends text = (numeral_from text, numeral_is text)

scan_fails : (text : List ℕ) → ¬ IsNumeral text → is_numeral text ≡ false
scan_fails text h = by (is_numeral text) refl
  where
    by : (b : Bool) → is_numeral text ≡ b → is_numeral text ≡ false
    by true e = absurd (h (numeral_from text e))
    by false e = e

one_front : (text : List ℕ) (m n : ℕ) → IsLongestFront text m → IsLongestFront text n → m ≡ n
one_front text m n a b = le_antisymm (b.longest m a.within a.front) (a.longest n b.within b.front)

pub longest_stops : (text : List ℕ) (place : ℕ) → (place ≡ reach phases.Start text) ↔ IsLongestFront text place
longest_stops text place = (
  λ e. subst (IsLongestFront text) (sym e) (reach_is_longest text),
  λ front. one_front text place (reach phases.Start text) front (reach_is_longest text),
)

-- ---- the number

one_nearest : (top bottom m n : ℕ) → IsNearest top bottom m → IsNearest top bottom n → m ≡ n
one_nearest top bottom m n a b =
    let same = le_antisymm (a.least n) (b.least m) in
    le_antisymm (b.greatest m same) (a.greatest n (sym same))

read_size : (places : ℕ) (text : List ℕ) (n : ℤ) → IsRounded places text n → unsigned_abs n ≡ magnitude places text
read_size places text n r = one_nearest (written_top text * 10 ^ places) (written_bottom text) (unsigned_abs n) (magnitude places text) r.size (magnitude_nearest places text)

some_byte : (text : List ℕ) → IsNumeral text → length text ≢ 0
some_byte text j e = true≢false (sym (numeral_is text j) ∙ ap is_numeral (nil_of text e))

-- ---- the answer

abbrev Seen : ℤ → ℤ
Seen n = n

from_reading : (places most : ℕ) (text : List ℕ) (r : Result ℤ NumeralFault) → IsReading Seen places most text r → r ≡ number_of places most text
from_reading places most text (Ok n) told =
    let size = read_size places text n told.1.0 in
    let good = told.0.1 in
    ap Ok (told.1.0.sign ∙ ap (signed text) size)
    ∙ value_is places most text (some_byte text good) told.0.0 (numeral_is text good) (subst (λ k. k ≤ most) size told.1.1)
from_reading places most text (Err faults.Empty) told = empty_is places most text (ap length told.0)
from_reading places most text (Err faults.TooLong) told = long_is places most text told.0
from_reading places most text (Err (faults.BadByte place)) told =
    bad_is places most text place (let some = told.0.0 in omega arith) told.0.1 (scan_fails text told.0.2) ((longest_stops text place).1 told.0.3)
from_reading places most text (Err faults.TooLarge) told =
    let good = told.0.1 in
    let large = told.0.2 in
    let size = one_nearest (written_top text * 10 ^ places) (written_bottom text) large.size (magnitude places text) large.nearest (magnitude_nearest places text) in
    large_is places most text (some_byte text good) told.0.0 (numeral_is text good) (subst (λ k. most < k) size large.large)

-- the same of a reading whose number is another type's

seen_reading : {A : Type 0} (view : A → ℤ) (places most : ℕ) (text : List ℕ) (r : Result A NumeralFault) → IsReading view places most text r → IsReading Seen places most text (result_map_both view (λ e. e) r)
seen_reading view places most text (Ok a) told = told
seen_reading view places most text (Err faults.Empty) told = told
seen_reading view places most text (Err faults.TooLong) told = told
seen_reading view places most text (Err (faults.BadByte place)) told = told
seen_reading view places most text (Err faults.TooLarge) told = told

made_again : {A : Type 0} (make : ℤ → A) (view : A → ℤ) → ((a : A) → make (view a) ≡ a) → (r : Result A NumeralFault) → r ≡ result_map_both make (λ e. e) (result_map_both view (λ e. e) r)
made_again make view same (Ok a) = ap Ok (sym (same a))
made_again make view same (Err e) = refl

made_reading : {A : Type 0} (make : ℤ → A) (view : A → ℤ) → ((a : A) → make (view a) ≡ a) → (places most : ℕ) (text : List ℕ) (r : Result A NumeralFault) → IsReading view places most text r → r ≡ result_map_both make (λ e. e) (number_of places most text)
made_reading make view same places most text r told =
    made_again make view same r ∙ ap (λ x. result_map_both make (λ e. e) x) (from_reading places most text (result_map_both view (λ e. e) r) (seen_reading view places most text r told))

told_reading : {A : Type 0} (view : A → ℤ) (places most : ℕ) (text : List ℕ) (r : Result A NumeralFault) → Told view places most text r → IsReading view places most text r
told_reading {A = A} view places most text r t = (t.answer, both r t.nearest t.small)
  where
    both : (x : Result A NumeralFault) → IfOk x (λ a. IsRounded places text (view a)) → IfOk x (λ a. unsigned_abs (view a) ≤ most) → IfOk x (λ a. IsRounded places text (view a) × (unsigned_abs (view a) ≤ most))
    both (Ok a) nearest small = (nearest, small)
    both (Err e) nearest small = tt

pub cents_reading : (text : List ℕ) (r : Result Cents NumeralFault) → (r ≡ cents_of text) ↔ IsReading (λ (c : Cents). c.0) 2 (10 ^ 15) text r
unfolding cents_of
cents_reading text r = (
  λ e. told_reading (λ (c : Cents). c.0) 2 (10 ^ 15) text r (cents_told text r e),
  made_reading (λ n. record { 0 = n }) (λ (c : Cents). c.0) (λ c. refl) 2 (10 ^ 15) text r,
)

pub rate4_reading : (text : List ℕ) (r : Result Rate4 NumeralFault) → (r ≡ rate4_of text) ↔ IsReading (λ (c : Rate4). c.0) 4 (10 ^ 12) text r
unfolding rate4_of
rate4_reading text r = (
  λ e. told_reading (λ (c : Rate4). c.0) 4 (10 ^ 12) text r (rate4_told text r e),
  made_reading (λ n. record { 0 = n }) (λ (c : Rate4). c.0) (λ c. refl) 4 (10 ^ 12) text r,
)

-- ---- exact numbers

bottom_positive : (text : List ℕ) → 0 < written_bottom text
unfolding written_bottom
bottom_positive text = mul-pos (ten_positive (length (fraction text))) (by (is_minus (exponent text)) (number (exponent_digits text)))
  where
    by : (b : Bool) (power : ℕ) → 0 < cond b (10 ^ power) 1
    by true power = ten_positive power
    by false power = omega arith

one_exact : (places : ℕ) (text : List ℕ) (m n : ℤ) → IsExact places text m → IsExact places text n → m ≡ n
one_exact places text m n a b =
    let some = bottom_positive text in
    let same : unsigned_abs m ≡ unsigned_abs n =
    sym (mul-div_cancel (unsigned_abs m) some) ∙ ap (λ k. k / written_bottom text) (a.size ∙ sym b.size) ∙ mul-div_cancel (unsigned_abs n) some in
    a.sign ∙ ap (signed text) same ∙ sym b.sign

from_fixed : (places : ℕ) (text : List ℕ) (r : Option ℤ) → IsFixedReading places text r → r ≡ fixed_of places text
from_fixed places text r told = by r (fixed_of places text) told (exact_answer places text (fixed_of places text) refl)
  where
    by : (x y : Option ℤ) → IsFixedReading places text x → IsFixedReading places text y → x ≡ y
    by None None a b = refl
    by None (Some n) a b = absurd (a b.0)
    by (Some m) None a b = absurd (b a.0)
    by (Some m) (Some n) a b = ap Some (one_exact places text m n a.1 b.1)

pub fixed_reading : (places : ℕ) (text : List ℕ) (r : Option ℤ) → (r ≡ fixed_of places text) ↔ IsFixedReading places text r
fixed_reading places text r = (exact_answer places text r, from_fixed places text r)
