-- What reading a numeral answers, test by test.
use Rattle.std.proofs.Common.{Option, MatchOption, ◌≡◌, ◌≢◌, ℕ, ◌+◌, ◌-◌, ◌*◌, ◌^◌, ◌<◌, ◌≤◌, min, Bool, true, false, cond, not, ◌&&◌, nat_le, nat_lt, ◌==◌, List, [], ◌∷◌, ◌++◌, length, ℤ, Some, None, Ok, Err, refl, sym, ap, ◌∙◌, subst, arith, ⊎_elim, eqb-true, true≢false}
use Rattle.std.proofs.lemmas.Bool.{lt-ltb, le-ltb, eq-eqb, ne_eqb, le-leb, lt-leb, cases_lt, and_left, and_right, and_parts, and_from, leb-true}
use Rattle.std.specs.Result.{result_ok}
use Rattle.mh_units.specs.declared.numeral.NumeralFault.TheVariants as faults
use Rattle.mh_units.specs.declared.scan.Phase.TheVariants as phases
use Rattle.mh_units.specs.Scan.{is_numeral, reach}
use Rattle.mh_units.specs.Numeral.{number_of, magnitude, scaled, signed, number, whole, fraction, exponent, exponent_digits, after_mantissa, after_mark, after_sign, digits, is_minus, fixed_of, fixed_value, IsFixed}
use Rattle.mh_units.proofs.Scans.{numeral_is}
use Rattle.mh_units.proofs.Fronts.{numeral_from}
use Rattle.mh_units.proofs.Numbers.{shift_up}

-- ---- the tests, in their order

pub empty_is : (places most : ℕ) (text : List ℕ) → length text ≡ 0 → Err faults.Empty ≡ number_of places most text
unfolding number_of
empty_is places most text e = rw (eq-eqb (length text) 0 e)

pub long_is : (places most : ℕ) (text : List ℕ) → 64 < length text → Err faults.TooLong ≡ number_of places most text
unfolding number_of
long_is places most text h =
    let some : length text ≢ 0 = omega arith in
    rw (ne_eqb (length text) 0 some, lt-ltb 64 (length text) h)

pub bad_is : (places most : ℕ) (text : List ℕ) (place : ℕ) → length text ≢ 0 → length text ≤ 64 → is_numeral text ≡ false → place ≡ reach phases.Start text → Err (faults.BadByte place) ≡ number_of places most text
unfolding number_of
bad_is places most text place some short bad e =
    rw (ne_eqb (length text) 0 some, le-ltb 64 (length text) short, bad, e)

pub large_is : (places most : ℕ) (text : List ℕ) → length text ≢ 0 → length text ≤ 64 → is_numeral text ≡ true → most < magnitude places text → Err faults.TooLarge ≡ number_of places most text
unfolding number_of
large_is places most text some short good large =
    rw (ne_eqb (length text) 0 some, le-ltb 64 (length text) short, good, lt-ltb most (magnitude places text) large)

pub value_is : (places most : ℕ) (text : List ℕ) → length text ≢ 0 → length text ≤ 64 → is_numeral text ≡ true → magnitude places text ≤ most → Ok (signed text (magnitude places text)) ≡ number_of places most text
unfolding number_of
value_is places most text some short good fits =
    rw (ne_eqb (length text) 0 some, le-ltb 64 (length text) short, good, le-ltb most (magnitude places text) fits)

-- ---- the answers of code that counts sizes up to 10^16

capped : (m most size : ℕ) → most ≤ 10 ^ 15 → size ≡ min m (10 ^ 16) → size ≤ most → (size ≡ m) × (m ≤ most)
capped m most size small e fits = (omega arith, omega arith)

same_scaled : (places : ℕ) (text before behind power : List ℕ) (below : Bool) → before ≡ whole text → behind ≡ fraction text → below ≡ is_minus (exponent text) → power ≡ exponent_digits text → scaled places before behind below power ≡ magnitude places text
unfolding magnitude
same_scaled places text before behind power below b f n e =
    ap (λ x. scaled places x behind below power) b ∙ ap (λ x. scaled places (whole text) x below power) f ∙ ap (λ x. scaled places (whole text) (fraction text) x power) n ∙ ap (λ x. scaled places (whole text) (fraction text) (is_minus (exponent text)) x) e

-- the size that code counted, of parts that are those of the text
pub record Counted (places : ℕ) (text : List ℕ) (size : ℕ) : Type 0 where
  pub before : List ℕ
  pub behind : List ℕ
  pub power : List ℕ
  pub below : Bool
  pub is_whole : before ≡ whole text
  pub is_fraction : behind ≡ fraction text
  pub is_below : below ≡ is_minus (exponent text)
  pub is_power : power ≡ exponent_digits text
  pub size_is : size ≡ min (scaled places before behind below power) (10 ^ 16)

pub counted_size : (places : ℕ) (text : List ℕ) (size : ℕ) → Counted places text size → size ≡ min (magnitude places text) (10 ^ 16)
counted_size places text size k = k.size_is ∙ ap (λ m. min m (10 ^ 16)) (same_scaled places text k.before k.behind k.power k.below k.is_whole k.is_fraction k.is_below k.is_power)

pub large_from : (places most size : ℕ) (text : List ℕ) → most ≤ 10 ^ 15 → length text ≢ 0 → length text ≤ 64 → is_numeral text ≡ true → Counted places text size → most < size → Err faults.TooLarge ≡ number_of places most text
large_from places most size text small some short good k large = large_is places most text some short good (omega (arith, counted_size places text size k))

pub value_from : (places most size : ℕ) (text : List ℕ) (r : ℤ) → most ≤ 10 ^ 15 → length text ≢ 0 → length text ≤ 64 → is_numeral text ≡ true → Counted places text size → size ≤ most → r ≡ signed text size → Ok r ≡ number_of places most text
value_from places most size text r small some short good k fits e =
    let two = capped (magnitude places text) most size small (counted_size places text size k) fits in
    ap (λ z. Ok z) (e ∙ ap (λ m. signed text m) two.0) ∙ value_is places most text some short good two.1

-- ---- exact values

pub nil_of : (xs : List ℕ) → length xs ≡ 0 → xs ≡ []
nil_of [] e = refl
nil_of (x ∷ xs) e = absurd (omega (arith, e))

leb_is : (a b : ℕ) → nat_le a b ≡ not (nat_lt b a)
leb_is a b = ⊎_elim (λ h. lt-leb a b h ∙ sym (ap not (lt-ltb b a h))) (λ h. le-leb a b h ∙ sym (ap not (le-ltb b a h))) (cases_lt b a)

-- Without an exponent, and with room for the digits behind the point, nothing is rounded.
pub magnitude_fixed : (places : ℕ) (text : List ℕ) → length (after_mantissa text) ≡ 0 → length (fraction text) ≤ places → magnitude places text ≡ fixed_value places text
unfolding magnitude
magnitude_fixed places text none few =
    let empty = nil_of (after_mantissa text) none in
    let sign : is_minus (exponent text) ≡ false = ap (λ r. is_minus (after_mark r)) empty in
    let power : exponent_digits text ≡ [] = ap (λ r. digits (after_sign (after_mark r))) empty in
    let whole_number = number (whole text ++ fraction text) in
    let same : places + 0 - length (fraction text) ≡ places - length (fraction text) = omega arith in
    ap (λ b. scaled places (whole text) (fraction text) b (exponent_digits text)) sign ∙ ap (λ d. scaled places (whole text) (fraction text) false d) power
    ∙ shift_up whole_number (places + 0) (length (fraction text)) (omega arith) ∙ ap (λ k. whole_number * 10 ^ k) same

pub fixed_none_rest : (places : ℕ) (text : List ℕ) → length (after_mantissa text) ≢ 0 → None ≡ fixed_of places text
unfolding fixed_of
fixed_none_rest places text some =
    let t = ne_eqb (length (after_mantissa text)) 0 some in
    sym (ap (λ b. cond b (Some (signed text (fixed_value places text))) None) (and_left (nat_le (length text) 64 && is_numeral text && (length (after_mantissa text) == 0) && nat_le (length (fraction text)) places) (nat_le (fixed_value places text) (10 ^ 12))
    (and_left (nat_le (length text) 64 && is_numeral text && (length (after_mantissa text) == 0)) (nat_le (length (fraction text)) places) (and_right (nat_le (length text) 64 && is_numeral text) (length (after_mantissa text) == 0) t))))

pub fixed_none_long : (places : ℕ) (text : List ℕ) → places < length (fraction text) → None ≡ fixed_of places text
unfolding fixed_of
fixed_none_long places text long =
    let t = lt-leb (length (fraction text)) places long in
    sym (ap (λ b. cond b (Some (signed text (fixed_value places text))) None) (and_left (nat_le (length text) 64 && is_numeral text && (length (after_mantissa text) == 0) && nat_le (length (fraction text)) places) (nat_le (fixed_value places text) (10 ^ 12))
    (and_right (nat_le (length text) 64 && is_numeral text && (length (after_mantissa text) == 0)) (nat_le (length (fraction text)) places) t)))

chosen : (empty long good large : Bool) (place : ℕ) (x : ℤ) → (empty ≡ true → good ≡ false) → result_ok (cond empty (Err faults.Empty) (cond long (Err faults.TooLong) (cond (not good) (Err (faults.BadByte place)) (cond large (Err faults.TooLarge) (Ok x))))) ≡ cond (not long && good && true && true && not large) (Some x) None
chosen true long true large place x h = absurd (true≢false (h refl))
chosen true true false large place x h = refl
chosen true false false large place x h = refl
chosen false true good large place x h = refl
chosen false false false large place x h = refl
chosen false false true true place x h = refl
chosen false false true false place x h = refl

empty_is_none : (text : List ℕ) → (length text == 0) ≡ true → is_numeral text ≡ false
empty_is_none [] e = refl
empty_is_none (b ∷ bs) e = absurd (omega (arith, eqb-true (length (b ∷ bs)) 0 e))

pub fixed_from : (places : ℕ) (text : List ℕ) → length (after_mantissa text) ≡ 0 → length (fraction text) ≤ places → result_ok (number_of places (10 ^ 12) text) ≡ fixed_of places text
unfolding number_of fixed_of
fixed_from places text none few =
    rw (magnitude_fixed places text none few, leb_is (length text) 64, eq-eqb (length (after_mantissa text)) 0 none, le-leb (length (fraction text)) places few, leb_is (fixed_value places text) (10 ^ 12))
    (chosen (length text == 0) (nat_lt 64 (length text)) (is_numeral text) (nat_lt (10 ^ 12) (fixed_value places text)) (reach phases.Start text) (signed text (fixed_value places text)) (empty_is_none text))

-- ---- exact values by the written grammar

fixed_is : (places : ℕ) (text : List ℕ) → MatchOption (fixed_of places text) (¬ IsFixed places text) (λ n. IsFixed places text × (n ≡ signed text (fixed_value places text)))
unfolding fixed_of
fixed_is places text =
    by (nat_le (length text) 64 && is_numeral text && (length (after_mantissa text) == 0) && nat_le (length (fraction text)) places && nat_le (fixed_value places text) (10 ^ 12)) refl
  where
    holds : (a b c d e : Bool) → (a && b && c && d && e) ≡ true → (a ≡ true) × (b ≡ true) × (c ≡ true) × (d ≡ true) × (e ≡ true)
    holds a b c d e h =
        let four = and_parts (a && b && c && d) e h in let three = and_parts (a && b && c) d four.0 in let two = and_parts (a && b) c three.0 in let one = and_parts a b two.0 in
        (one.0, one.1, two.1, three.1, four.1)

    from : (a b c d e : Bool) → a ≡ true → b ≡ true → c ≡ true → d ≡ true → e ≡ true → (a && b && c && d && e) ≡ true
    from a b c d e p q r s t = and_from (a && b && c && d) e (and_from (a && b && c) d (and_from (a && b) c (and_from a b p q) r) s) t

    by : (t : Bool) → (nat_le (length text) 64 && is_numeral text && (length (after_mantissa text) == 0) && nat_le (length (fraction text)) places && nat_le (fixed_value places text) (10 ^ 12)) ≡ t → MatchOption (cond t (Some (signed text (fixed_value places text))) None) (¬ IsFixed places text) (λ n. IsFixed places text × (n ≡ signed text (fixed_value places text)))
    by true h =
        let five = holds (nat_le (length text) 64) (is_numeral text) (length (after_mantissa text) == 0) (nat_le (length (fraction text)) places) (nat_le (fixed_value places text) (10 ^ 12)) h in (
          record {
            short = leb-true (length text) 64 five.0;
            numeral = numeral_from text five.1;
            no_exponent = eqb-true (length (after_mantissa text)) 0 five.2;
            few = leb-true (length (fraction text)) places five.3;
            small = leb-true (fixed_value places text) (10 ^ 12) five.4;
          },
          refl,
        )
    by false h = λ f. true≢false (sym (from (nat_le (length text) 64) (is_numeral text) (length (after_mantissa text) == 0) (nat_le (length (fraction text)) places) (nat_le (fixed_value places text) (10 ^ 12))
        (le-leb (length text) 64 f.short) (numeral_is text f.numeral) (eq-eqb (length (after_mantissa text)) 0 f.no_exponent) (le-leb (length (fraction text)) places f.few) (le-leb (fixed_value places text) (10 ^ 12) f.small)) ∙ h)

pub fixed_answer : (places : ℕ) (text : List ℕ) (r : Option ℤ) → r ≡ fixed_of places text → MatchOption r (¬ IsFixed places text) (λ n. IsFixed places text × (n ≡ signed text (fixed_value places text)))
fixed_answer places text r e =
    let P : Option ℤ → Type 0 = λ o. MatchOption o (¬ IsFixed places text) (λ n. IsFixed places text × (n ≡ signed text (fixed_value places text))) in
    subst P (sym e) (fixed_is places text)
