-- Written amounts and rates read back as what was written.
use Rattle.std.proofs.Common.{◌≡◌, ℕ, suc, ◌+◌, ◌-◌, ◌*◌, ◌/◌, ◌%◌, ◌^◌, ◌<◌, ◌≤◌, true, false, List, [], ◌∷◌, ◌++◌, length, ℤ, pos, negsuc, neg_ℤ, unsigned_abs, refl, ap, ◌∙◌, arith, Some, Ok, length-append}
use Rattle.std.specs.List.{AllByRecursion, prefix_len}
use Rattle.std.specs.Char.{is_ascii_digit}
use Rattle.std.specs.Fmt.{decimal}
use Rattle.std.proofs.lemmas.Fmt.{decimal_digit, decimal_by_steps_wide, length-decimal-le_wide}
use Rattle.std.proofs.lemmas.Bool.{le-leb, le-ltb, ne_eqb}
use Rattle.std.proofs.lemmas.List.{take_at, drop_at, append-nil}
use Rattle.crif_reader.specs.MhUnits.declared.quantities.Cents.{Cents}
use Rattle.crif_reader.specs.MhUnits.declared.quantities.Rate4.{Rate4}
use Rattle.crif_reader.specs.MhUnits.declared.scan.Kind.TheVariants as kinds
use Rattle.crif_reader.specs.MhUnits.declared.scan.Phase.TheVariants as phases
use Rattle.crif_reader.specs.MhUnits.Grammar.{IsDigit}
use Rattle.crif_reader.specs.MhUnits.Money.{money_text}
use Rattle.crif_reader.specs.MhUnits.Scan.{kind_of, scan, is_numeral}
use Rattle.crif_reader.specs.MhUnits.Numeral.{number, number_after, number_of, magnitude, nearest, digits, after_digits, after_sign, after_point, is_minus, signed, with_sign, cents_of, rate4_of}
use Rattle.crif_reader.proofs.MhUnits.Digits.{all-append}
use Rattle.crif_writer.specs.Amounts.{four_digits, rate_text}

-- ---- digits

digit_test : (b : ℕ) → IsDigit b → is_ascii_digit b ≡ true
digit_test b d = rw (le-leb 48 b d.low, le-leb b 57 d.high) refl

digit_kind : (b : ℕ) → IsDigit b → kind_of b ≡ kinds.Digit
digit_kind b d = rw (le-leb 48 b d.low, le-leb b 57 d.high) refl

digit_of : (n : ℕ) → n < 10 → IsDigit (48 + n)
digit_of n small = record { low = omega arith; high = omega arith }

prefix_digits : (ds rest : List ℕ) → AllByRecursion IsDigit ds → prefix_len is_ascii_digit (ds ++ rest) ≡ length ds + prefix_len is_ascii_digit rest
prefix_digits [] rest h = omega arith
prefix_digits (d ∷ ds) rest h = rw (digit_test d h.0) (omega (arith, prefix_digits ds rest h.1))

-- digits, and what follows them, which begins with none
digits_front : (ds rest : List ℕ) → AllByRecursion IsDigit ds → prefix_len is_ascii_digit rest ≡ 0 → digits (ds ++ rest) ≡ ds
digits_front ds rest h stop = take_at ds rest (prefix_len is_ascii_digit (ds ++ rest)) (omega (arith, prefix_digits ds rest h))

digits_left : (ds rest : List ℕ) → AllByRecursion IsDigit ds → prefix_len is_ascii_digit rest ≡ 0 → after_digits (ds ++ rest) ≡ rest
digits_left ds rest h stop = drop_at ds rest (prefix_len is_ascii_digit (ds ++ rest)) (omega (arith, prefix_digits ds rest h))

-- ---- a text of digits, a point and digits

abbrev pointed : List ℕ → List ℕ → List ℕ
pointed before behind = before ++ (46 ∷ behind)

scan_whole : (ds rest : List ℕ) → AllByRecursion IsDigit ds → scan phases.Whole (ds ++ rest) ≡ scan phases.Whole rest
scan_whole [] rest h = refl
scan_whole (d ∷ ds) rest h = rw (digit_kind d h.0) (scan_whole ds rest h.1)

scan_fraction : (ds : List ℕ) → AllByRecursion IsDigit ds → scan phases.Fraction ds ≡ Some phases.Fraction
scan_fraction [] h = refl
scan_fraction (d ∷ ds) h = rw (digit_kind d h.0) (scan_fraction ds h.1)

numeral_pointed : (before behind : List ℕ) → AllByRecursion IsDigit before → AllByRecursion IsDigit behind → 0 < length before → is_numeral (pointed before behind) ≡ true
numeral_pointed [] behind h k some = absurd (omega arith)
numeral_pointed (d ∷ ds) behind h k some = rw (digit_kind d h.0, scan_whole ds (46 ∷ behind) h.1, scan_fraction behind k) refl

numeral_minus : (before behind : List ℕ) → AllByRecursion IsDigit before → AllByRecursion IsDigit behind → 0 < length before → is_numeral (45 ∷ pointed before behind) ≡ true
numeral_minus [] behind h k some = absurd (omega arith)
numeral_minus (d ∷ ds) behind h k some = rw (digit_kind d h.0, scan_whole ds (46 ∷ behind) h.1, scan_fraction behind k) refl

-- the parts of such a text, from behind its sign
record HasPoint (unsigned before behind : List ℕ) : Type 0 where
  front : digits unsigned ≡ before
  back : digits (after_point (after_digits unsigned)) ≡ behind
  none : after_digits (after_point (after_digits unsigned)) ≡ []

has_point : (before behind : List ℕ) → AllByRecursion IsDigit before → AllByRecursion IsDigit behind → HasPoint (pointed before behind) before behind
has_point before behind h k =
    let left = digits_left before (46 ∷ behind) h refl in
    let front : digits (behind ++ []) ≡ behind = digits_front behind [] k refl in
    let end : after_digits (behind ++ []) ≡ [] = digits_left behind [] k refl in
    record {
      front = digits_front before (46 ∷ behind) h refl;
      back = ap (λ r. digits (after_point r)) left ∙ (rw (append-nil behind) at front);
      none = ap (λ r. after_digits (after_point r)) left ∙ (rw (append-nil behind) at end);
    }

-- a text that begins with a digit has no sign
unsigned_same : (before behind : List ℕ) → AllByRecursion IsDigit before → 0 < length before → after_sign (pointed before behind) ≡ pointed before behind
unsigned_same [] behind h some = absurd (omega arith)
unsigned_same (d ∷ ds) behind h some =
    let low = h.0.low in
    rw (ne_eqb d 43 (omega arith), ne_eqb d 45 (omega arith)) refl

no_minus : (before behind : List ℕ) → AllByRecursion IsDigit before → 0 < length before → is_minus (pointed before behind) ≡ false
no_minus [] behind h some = absurd (omega arith)
no_minus (d ∷ ds) behind h some =
    let low = h.0.low in
    ne_eqb d 45 (omega arith)

-- ---- the number that digits write

number-append : (n : ℕ) (xs ys : List ℕ) → number_after n (xs ++ ys) ≡ number_after (number_after n xs) ys
number-append n [] ys = refl
number-append n (x ∷ xs) ys = number-append (n * 10 + (x - 48)) xs ys

pub record IsWritten (n : ℕ) (ds : List ℕ) : Type 0 where
  pub all : AllByRecursion IsDigit ds
  pub value : number ds ≡ n
  pub some : 0 < length ds

pub decimal_written : (n : ℕ) → n < 10 ^ 64 → IsWritten n (decimal n)
decimal_written n h =
    decimal_by_steps_wide IsWritten
    (λ d small. record { all = (digit_of d small, tt); value = omega arith; some = omega arith })
    (λ m ds big front.
    let last : m % 10 < 10 = omega arith in
    record {
      all = all-append ds ((48 + m % 10) ∷ []) front.all (digit_of (m % 10) last, tt);
      value = number-append 0 ds ((48 + m % 10) ∷ []) ∙ rw front.value (omega arith);
      some = omega (arith, front.some, length-append ds ((48 + m % 10) ∷ []));
    })
    n h

-- ---- reading

-- a whole number of units is its own nearest
nearest_cents : (n : ℕ) → nearest (n * 10 ^ 2) (10 ^ 2) ≡ n
nearest_cents n = omega arith

nearest_rate : (n : ℕ) → nearest (n * 10 ^ 4) (10 ^ 4) ≡ n
nearest_rate n = omega arith

-- digits before a point and digits behind it, which together write the number
pub record IsFixedText (before behind : List ℕ) (n : ℕ) : Type 0 where
  pub front : AllByRecursion IsDigit before
  pub back : AllByRecursion IsDigit behind
  pub some : 0 < length before
  pub short : length before + length behind ≤ 60
  pub value : number (before ++ behind) ≡ n

magnitude_pointed : (places : ℕ) (text before behind : List ℕ) → HasPoint (after_sign text) before behind → magnitude places text ≡ nearest (number (before ++ behind) * 10 ^ places) (10 ^ length behind)
unfolding magnitude
magnitude_pointed places text before behind p =
    let same : places + 0 ≡ places = omega arith in
    rw (p.front, p.back, p.none, same) refl

number_taken : (places most : ℕ) (text : List ℕ) (n : ℕ) → 0 < length text → length text ≤ 64 → is_numeral text ≡ true → magnitude places text ≡ n → n ≤ most → number_of places most text ≡ Ok (signed text n)
unfolding number_of
number_taken places most text n some short numeral size fits =
    rw (ne_eqb (length text) 0 (omega arith), le-ltb 64 (length text) short, numeral, size, le-ltb most n fits) refl

unsigned_taken : (places most : ℕ) (before behind : List ℕ) (n : ℕ) → IsFixedText before behind n → nearest (n * 10 ^ places) (10 ^ length behind) ≡ n → n ≤ most → number_of places most (pointed before behind) ≡ Ok (pos n)
unsigned_taken places most before behind n f exact fits =
    let text = pointed before behind in
    let parts : HasPoint (after_sign text) before behind = rw (unsigned_same before behind f.front f.some) (has_point before behind f.front f.back) in
    let size : magnitude places text ≡ n = magnitude_pointed places text before behind parts ∙ ap (λ v. nearest (v * 10 ^ places) (10 ^ length behind)) f.value ∙ exact in
    let long : length text ≡ length before + (1 + length behind) = length-append before (46 ∷ behind) ∙ omega arith in
    number_taken places most text n (omega (arith, f.some)) (omega (arith, f.short)) (numeral_pointed before behind f.front f.back f.some) size fits
    ∙ ap (λ m. Ok (with_sign m n)) (no_minus before behind f.front f.some)

minus_taken : (places most : ℕ) (before behind : List ℕ) (n : ℕ) → IsFixedText before behind n → nearest (n * 10 ^ places) (10 ^ length behind) ≡ n → n ≤ most → number_of places most (45 ∷ pointed before behind) ≡ Ok (neg_ℤ (pos n))
minus_taken places most before behind n f exact fits =
    let text = 45 ∷ pointed before behind in
    let size : magnitude places text ≡ n = magnitude_pointed places text before behind (has_point before behind f.front f.back) ∙ ap (λ v. nearest (v * 10 ^ places) (10 ^ length behind)) f.value ∙ exact in
    let long : length text ≡ 1 + (length before + (1 + length behind)) = omega (arith, length-append before (46 ∷ behind)) in
    number_taken places most text n (omega (arith, f.some)) (omega (arith, f.short)) (numeral_minus before behind f.front f.back f.some) size fits

-- ---- amounts of money

one_digit : (n : ℕ) → n < 10 → IsWritten n (decimal n) × (decimal n ≡ (48 + n) ∷ [])
one_digit n small = (decimal_written n (omega arith), decimal_digit n small)

pub amount_fixed : (n : ℕ) → n ≤ 10 ^ 15 → IsFixedText (decimal (n / 100)) (decimal (n % 100 / 10) ++ decimal (n % 10)) n
amount_fixed n fits =
    let front = decimal_written (n / 100) (omega arith) in
    let short = length-decimal-le_wide 14 (n / 100) (omega arith) (omega arith) (omega arith) in
    let tens : n % 100 / 10 < 10 = omega arith in
    let ones : n % 10 < 10 = omega arith in
    rw (decimal_digit (n % 100 / 10) tens, decimal_digit (n % 10) ones) (record {
      front = front.all;
      back = (digit_of (n % 100 / 10) tens, (digit_of (n % 10) ones, tt));
      some = front.some;
      short = omega (arith, short);
      value = number-append 0 (decimal (n / 100)) ((48 + n % 100 / 10) ∷ (48 + n % 10) ∷ []) ∙ rw front.value (omega arith);
    })

two_digits : (n : ℕ) → length (decimal (n % 100 / 10) ++ decimal (n % 10)) ≡ 2
two_digits n =
    let tens : n % 100 / 10 < 10 = omega arith in
    let ones : n % 10 < 10 = omega arith in
    rw (decimal_digit (n % 100 / 10) tens, decimal_digit (n % 10) ones) refl

cents_exact : (n : ℕ) → nearest (n * 10 ^ 2) (10 ^ length (decimal (n % 100 / 10) ++ decimal (n % 10))) ≡ n
cents_exact n = rw (two_digits n) (nearest_cents n)

money_number : (c : ℤ) → unsigned_abs c ≤ 10 ^ 15 → number_of 2 (10 ^ 15) (money_text c) ≡ Ok c
unfolding money_text
money_number (pos n) fits = unsigned_taken 2 (10 ^ 15) _ _ n (amount_fixed n fits) (cents_exact n) fits
money_number (negsuc n) fits = minus_taken 2 (10 ^ 15) _ _ (suc n) (amount_fixed (suc n) fits) (cents_exact (suc n)) fits

pub money_reads : (c : Cents) → unsigned_abs c.0 ≤ 10 ^ 15 → cents_of (money_text c.0) ≡ Ok c
unfolding cents_of
money_reads c fits = rw (money_number c.0 fits) refl

-- ---- rates

pub rate_fixed : (n : ℕ) → n ≤ 10 ^ 12 → IsFixedText (decimal (n / 10000)) (four_digits n) n
rate_fixed n fits =
    let front = decimal_written (n / 10000) (omega arith) in
    let short = length-decimal-le_wide 14 (n / 10000) (omega arith) (omega arith) (omega arith) in
    let a : n % 10000 / 1000 < 10 = omega arith in
    let b : n % 1000 / 100 < 10 = omega arith in
    let c : n % 100 / 10 < 10 = omega arith in
    let d : n % 10 < 10 = omega arith in
    rw (decimal_digit (n % 10000 / 1000) a, decimal_digit (n % 1000 / 100) b, decimal_digit (n % 100 / 10) c, decimal_digit (n % 10) d) (record {
      front = front.all;
      back = (digit_of (n % 10000 / 1000) a, (digit_of (n % 1000 / 100) b, (digit_of (n % 100 / 10) c, (digit_of (n % 10) d, tt))));
      some = front.some;
      short = omega (arith, short);
      value = number-append 0 (decimal (n / 10000)) ((48 + n % 10000 / 1000) ∷ (48 + n % 1000 / 100) ∷ (48 + n % 100 / 10) ∷ (48 + n % 10) ∷ []) ∙ rw front.value (omega arith);
    })

four_long : (n : ℕ) → length (four_digits n) ≡ 4
four_long n =
    let a : n % 10000 / 1000 < 10 = omega arith in
    let b : n % 1000 / 100 < 10 = omega arith in
    let c : n % 100 / 10 < 10 = omega arith in
    let d : n % 10 < 10 = omega arith in
    rw (decimal_digit (n % 10000 / 1000) a, decimal_digit (n % 1000 / 100) b, decimal_digit (n % 100 / 10) c, decimal_digit (n % 10) d) refl

rate_exact : (n : ℕ) → nearest (n * 10 ^ 4) (10 ^ length (four_digits n)) ≡ n
rate_exact n = rw (four_long n) (nearest_rate n)

rate_number : (r : ℤ) → unsigned_abs r ≤ 10 ^ 12 → number_of 4 (10 ^ 12) (rate_text r) ≡ Ok r
unfolding rate_text
rate_number (pos n) fits = unsigned_taken 4 (10 ^ 12) _ _ n (rate_fixed n fits) (rate_exact n) fits
rate_number (negsuc n) fits = minus_taken 4 (10 ^ 12) _ _ (suc n) (rate_fixed (suc n) fits) (rate_exact (suc n)) fits

pub rate_reads : (r : Rate4) → unsigned_abs r.0 ≤ 10 ^ 12 → rate4_of (rate_text r.0) ≡ Ok r
unfolding rate4_of
rate_reads r fits = rw (rate_number r.0 fits) refl
