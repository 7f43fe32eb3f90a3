-- The value that is read, by the number that is written.
use Rattle.std.proofs.Common.{◌≡◌, ◌≢◌, ◌==◌, not, nat_lt, eqb-true, ℕ, zero, suc, ◌+◌, ◌-◌, ◌*◌, ◌^◌, ◌<◌, ◌≤◌, Bool, true, false, cond, List, ◌++◌, length, ℤ, unsigned_abs, refl, sym, ap, ◌∙◌, subst, arith, pow-add, IfOk, Option, Some, None, Result, Ok, Err, MatchOption}
use Rattle.std.proofs.lemmas.Bool.{ltb-true, ltb-false, eqb-false}
use Rattle.std.specs.Result.{result_map_both}
use Rattle.mh_units.specs.declared.numeral.NumeralFault.{NumeralFault}
use Rattle.mh_units.specs.declared.numeral.NumeralFault.TheVariants as faults
use Rattle.mh_units.specs.declared.scan.Phase.TheVariants as phases
use Rattle.mh_units.specs.declared.quantities.Cents.{Cents}
use Rattle.mh_units.specs.declared.quantities.Rate4.{Rate4}
use Rattle.mh_units.specs.Grammar.{IsNumeral}
use Rattle.mh_units.specs.Scan.{is_numeral, reach}
use Rattle.mh_units.specs.Numeral.{number, number_of, cents_of, rate4_of, IsTooLarge, nearest, whole, fraction, is_minus, exponent, exponent_digits, after_mantissa, after_mark, after_sign, digits, magnitude, signed, with_sign, fixed_value, fixed_of, written_top, written_bottom, IsNearest, IsRounded, IsExact, IsFixed, IsAnswer}
use Rattle.mh_units.proofs.Numbers.{nearest_is, ten_positive}
use Rattle.mh_units.proofs.Apart.{apart_is}
use Rattle.mh_units.proofs.Fronts.{numeral_from, no_numeral, reach_is_longest}
use Rattle.mh_units.proofs.Answers.{nil_of, fixed_answer}

size-with_sign : (negative : Bool) (n : ℕ) → unsigned_abs (with_sign negative n) ≡ n
size-with_sign true zero = refl
size-with_sign true (suc n) = refl
size-with_sign false n = refl

nearest_of : (a b c d : ℕ) → 0 < b → a ≡ c → b ≡ d → IsNearest c d (nearest a b)
nearest_of a b c d some top bottom = rw (← top, ← bottom) (nearest_is a b some)

-- by the digits' number, the number of digits behind the point, the exponent's sign and its size
nearest_scaled : (places n behind power : ℕ) (below : Bool) →
    IsNearest (n * cond below 1 (10 ^ power) * 10 ^ places) (10 ^ behind * cond below (10 ^ power) 1)
    (cond below (nearest (n * 10 ^ places) (10 ^ (behind + power))) (nearest (n * 10 ^ (places + power)) (10 ^ behind)))
nearest_scaled places n behind power true =
    nearest_of _ _ _ _ (ten_positive (behind + power)) (omega arith) (pow-add 10 behind power)
nearest_scaled places n behind power false =
    let top : n * 10 ^ (places + power) ≡ n * 10 ^ power * 10 ^ places = ap (λ k. n * k) (pow-add 10 places power) ∙ omega arith in
    nearest_of _ _ _ _ (ten_positive behind) top (omega arith)

pub magnitude_nearest : (places : ℕ) (text : List ℕ) → IsNearest (written_top text * 10 ^ places) (written_bottom text) (magnitude places text)
unfolding magnitude written_top written_bottom
magnitude_nearest places text =
    nearest_scaled places (number (whole text ++ fraction text)) (length (fraction text)) (number (exponent_digits text)) (is_minus (exponent text))

rounded_is : (places : ℕ) (text : List ℕ) → IsRounded places text (signed text (magnitude places text))
rounded_is places text =
    let size : unsigned_abs (signed text (magnitude places text)) ≡ magnitude places text = size-with_sign (is_minus text) (magnitude places text) in
    record {
      sign = ap (signed text) (sym size);
      size = rw size (magnitude_nearest places text);
    }

-- ---- the answer by the written grammar

pub record Told {A : Type 0} (view : A → ℤ) (places most : ℕ) (text : List ℕ) (r : Result A NumeralFault) : Type 0 where
  pub answer : IsAnswer places most text r
  pub nearest : IfOk r (λ a. IsRounded places text (view a))
  pub small : IfOk r (λ a. unsigned_abs (view a) ≤ most)

told_is : (places most : ℕ) (text : List ℕ) → Told (λ n. n) places most text (number_of places most text)
unfolding number_of
told_is places most text = at_empty (length text == 0) refl
  where
    at_size : length text ≤ 64 → IsNumeral text → (t : Bool) → nat_lt most (magnitude places text) ≡ t → Told (λ n. n) places most text (cond t (Err faults.TooLarge) (Ok (signed text (magnitude places text))))
    at_size short good true e =
        let large : IsTooLarge places most text = record { size = magnitude places text; nearest = magnitude_nearest places text; large = ltb-true most (magnitude places text) e } in
        record { answer = (short, good, large); nearest = tt; small = tt }
    at_size short good false e = record {
      answer = (short, good, apart_is text good);
      nearest = rounded_is places text;
      small = rw (size-with_sign (is_minus text) (magnitude places text)) (ltb-false most (magnitude places text) e);
    }

    at_bytes : 0 < length text → length text ≤ 64 → (t : Bool) → is_numeral text ≡ t → Told (λ n. n) places most text (cond (not t) (Err (faults.BadByte (reach phases.Start text))) (cond (nat_lt most (magnitude places text)) (Err faults.TooLarge) (Ok (signed text (magnitude places text)))))
    at_bytes some short true e = at_size short (numeral_from text e) (nat_lt most (magnitude places text)) refl
    at_bytes some short false e = record { answer = (some, short, no_numeral text e, reach_is_longest text); nearest = tt; small = tt }

    at_length : 0 < length text → (t : Bool) → nat_lt 64 (length text) ≡ t → Told (λ n. n) places most text (cond t (Err faults.TooLong) (cond (not (is_numeral text)) (Err (faults.BadByte (reach phases.Start text))) (cond (nat_lt most (magnitude places text)) (Err faults.TooLarge) (Ok (signed text (magnitude places text))))))
    at_length some true e = record { answer = ltb-true 64 (length text) e; nearest = tt; small = tt }
    at_length some false e = at_bytes some (ltb-false 64 (length text) e) (is_numeral text) refl

    at_empty : (t : Bool) → (length text == 0) ≡ t → Told (λ n. n) places most text (cond t (Err faults.Empty) (cond (nat_lt 64 (length text)) (Err faults.TooLong) (cond (not (is_numeral text)) (Err (faults.BadByte (reach phases.Start text))) (cond (nat_lt most (magnitude places text)) (Err faults.TooLarge) (Ok (signed text (magnitude places text)))))))
    at_empty true e = record { answer = nil_of text (eqb-true (length text) 0 e); nearest = tt; small = tt }
    at_empty false e = at_length (let apart : length text ≢ 0 = eqb-false (length text) 0 e in omega arith) (nat_lt 64 (length text)) refl

-- the same of an answer that is made of it
told_mapped : {A : Type 0} (make : ℤ → A) (view : A → ℤ) → ((n : ℤ) → view (make n) ≡ n) → (places most : ℕ) (text : List ℕ) (r : Result ℤ NumeralFault) → Told (λ n. n) places most text r → Told view places most text (result_map_both make (λ e. e) r)
told_mapped make view same places most text (Ok n) t = record {
  answer = t.answer;
  nearest = subst (IsRounded places text) (sym (same n)) t.nearest;
  small = subst (λ k. unsigned_abs k ≤ most) (sym (same n)) t.small;
}
told_mapped make view same places most text (Err faults.Empty) t = record { answer = t.answer; nearest = tt; small = tt }
told_mapped make view same places most text (Err faults.TooLong) t = record { answer = t.answer; nearest = tt; small = tt }
told_mapped make view same places most text (Err (faults.BadByte place)) t = record { answer = t.answer; nearest = tt; small = tt }
told_mapped make view same places most text (Err faults.TooLarge) t = record { answer = t.answer; nearest = tt; small = tt }

pub cents_told : (text : List ℕ) (r : Result Cents NumeralFault) → r ≡ cents_of text → Told (λ c. c.0) 2 (10 ^ 15) text r
unfolding cents_of
cents_told text r e =
    let P : Result Cents NumeralFault → Type 0 = λ x. Told (λ c. c.0) 2 (10 ^ 15) text x in
    subst P (sym e) (told_mapped (λ n. record { 0 = n }) (λ (c : Cents). c.0) (λ n. refl) 2 (10 ^ 15) text (number_of 2 (10 ^ 15) text) (told_is 2 (10 ^ 15) text))

pub rate4_told : (text : List ℕ) (r : Result Rate4 NumeralFault) → r ≡ rate4_of text → Told (λ c. c.0) 4 (10 ^ 12) text r
unfolding rate4_of
rate4_told text r e =
    let P : Result Rate4 NumeralFault → Type 0 = λ x. Told (λ c. c.0) 4 (10 ^ 12) text x in
    subst P (sym e) (told_mapped (λ n. record { 0 = n }) (λ (c : Rate4). c.0) (λ n. refl) 4 (10 ^ 12) text (number_of 4 (10 ^ 12) text) (told_is 4 (10 ^ 12) text))

-- ---- exact values

-- without an exponent the bottom has the digits behind the point alone
fixed_written : (places : ℕ) (text : List ℕ) → length (after_mantissa text) ≡ 0 → length (fraction text) ≤ places → fixed_value places text * written_bottom text ≡ written_top text * 10 ^ places
unfolding written_top written_bottom
fixed_written places text none few =
    let empty = nil_of (after_mantissa text) none in
    let sign : is_minus (exponent text) ≡ false = ap (λ r. is_minus (after_mark r)) empty in
    let power : number (exponent_digits text) ≡ 0 = ap (λ r. number (digits (after_sign (after_mark r)))) empty in
    let n : ℕ = number (whole text ++ fraction text) in
    let behind : ℕ = length (fraction text) in
    let parts : 10 ^ (places - behind) * 10 ^ behind ≡ 10 ^ places = sym (pow-add 10 (places - behind) behind) ∙ ap (λ k. 10 ^ k) (omega arith) in
    let top : written_top text ≡ n = rw (sign, power) (omega arith) in
    let bottom : written_bottom text ≡ 10 ^ behind = rw sign (omega arith) in
    let joined : n * 10 ^ (places - behind) * 10 ^ behind ≡ n * (10 ^ (places - behind) * 10 ^ behind) = omega arith in
    ap (λ k. n * 10 ^ (places - behind) * k) bottom ∙ joined ∙ ap (λ k. n * k) parts ∙ ap (λ k. k * 10 ^ places) (sym top)

fixed_exact : (places : ℕ) (text : List ℕ) (n : ℤ) → IsFixed places text → n ≡ signed text (fixed_value places text) → IsExact places text n
fixed_exact places text n fixed e =
    let size : unsigned_abs n ≡ fixed_value places text = ap unsigned_abs e ∙ size-with_sign (is_minus text) (fixed_value places text) in
    record {
      sign = e ∙ ap (signed text) (sym size);
      size = rw size (fixed_written places text fixed.no_exponent fixed.few);
    }

fixed_by_value : (places : ℕ) (text : List ℕ) (r : Option ℤ) → MatchOption r (¬ IsFixed places text) (λ n. IsFixed places text × (n ≡ signed text (fixed_value places text))) → MatchOption r (¬ IsFixed places text) (λ n. IsFixed places text × IsExact places text n)
fixed_by_value places text (Some n) answer = (answer.0, fixed_exact places text n answer.0 answer.1)
fixed_by_value places text None answer = answer

pub exact_answer : (places : ℕ) (text : List ℕ) (r : Option ℤ) → r ≡ fixed_of places text → MatchOption r (¬ IsFixed places text) (λ n. IsFixed places text × IsExact places text n)
exact_answer places text r e = fixed_by_value places text r (fixed_answer places text r e)
