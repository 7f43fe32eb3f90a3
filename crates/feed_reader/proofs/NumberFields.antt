-- Numbers that are read by std's rule for decimal digits.
use Rattle.std.proofs.Common.{◌≡◌, ◌∷◌, [], ℕ, ◌<◌, ◌≤◌, ◌^◌, Bool, true, false, cond, List, Some, None, Ok, Err, Result, length, not, ◌&&◌, ◌==◌, nat_lt, get_or, refl, inl, inr, arith}
use Rattle.std.specs.Result.{result_ok, OkIff}
use Rattle.std.specs.Str.{IsUtf8, all_ascii_digits}
use Rattle.std.specs.Str.Parse.{ParsesUnsigned, digits_value}
use Rattle.std.proofs.lemmas.Bool.{lt-ltb, ltb-true}
use Rattle.std.proofs.lemmas.Bool.Decides.{eqb_tells}
use Rattle.std.proofs.lemmas.Str.{IsUtf8-from_ascii}
use Rattle.std.proofs.lemmas.Fmt.{IsAscii-from_digits}
use Rattle.std.proofs.lemmas.Str.Parse.{IsNumeralModel, numerals_by_value, tells_all_ascii_digits, parse_plain}
use Rattle.feed_reader.specs.Values.{number}

own : IsNumeralModel (λ ds. all_ascii_digits ds ≡ true) (digits_value 10)
own = numerals_by_value _ tells_all_ascii_digits

chosen : (zero digits small : Bool) (v : ℕ) → zero ≡ false → digits ≡ true → small ≡ true → Some v ≡ cond ((not zero && digits) && small) (Some v) None
chosen zero digits small v first all few = rw (first, all, few) refl

refused : (zero digits small : Bool) (v : ℕ) → (digits ≡ true → small ≡ true → ⊥) → None ≡ cond ((not zero && digits) && small) (Some v) None
refused true digits small v never = refl
refused false false small v never = refl
refused false true false v never = refl
refused false true true v never = absurd (never refl refl)

-- text that isn't UTF-8 has a byte that is no digit
pub not_text : (field : List ℕ) → (IsUtf8 field → ⊥) → None ≡ number field
not_text [] never = refl
not_text (b ∷ bs) never =
    refused (b == 48) (all_ascii_digits (b ∷ bs)) (nat_lt (digits_value 10 (b ∷ bs)) (2 ^ 32)) (digits_value 10 (b ∷ bs)) (λ digits _. never (IsUtf8-from_ascii (b ∷ bs) (IsAscii-from_digits (b ∷ bs) (own.to (b ∷ bs) digits))))

not_zero : (b : ℕ) → 49 ≤ b → (b == 48) ≡ false
not_zero b low = elim (eqb_tells b 48) [ inl same ↦ absurd (let e = same.1 in omega arith) | inr other ↦ other.0 ]

read_so : {E : Type 0} (b : ℕ) (bs : List ℕ) (r : Result ℕ E) → 49 ≤ b → OkIff r ((all_ascii_digits (b ∷ bs) ≡ true) × (0 < length (b ∷ bs)) × (digits_value 10 (b ∷ bs) < 2 ^ 32)) (digits_value 10 (b ∷ bs)) → result_ok r ≡ number (b ∷ bs)
read_so b bs (Ok n) low is =
    rw is.1 (chosen (b == 48) (all_ascii_digits (b ∷ bs)) (nat_lt (digits_value 10 (b ∷ bs)) (2 ^ 32)) (digits_value 10 (b ∷ bs)) (not_zero b low) is.0.0 (lt-ltb (digits_value 10 (b ∷ bs)) (2 ^ 32) is.0.2))
read_so b bs (Err e) low never =
    refused (b == 48) (all_ascii_digits (b ∷ bs)) (nat_lt (digits_value 10 (b ∷ bs)) (2 ^ 32)) (digits_value 10 (b ∷ bs)) (λ digits small. never (digits, omega arith, ltb-true (digits_value 10 (b ∷ bs)) (2 ^ 32) small))

-- what is read behind a first digit that isn't 0
pub parsed : {E : Type 0} (field : List ℕ) (r : Result ℕ E) → 49 ≤ get_or field 0 0 → ParsesUnsigned 32 10 field r → result_ok r ≡ number field
parsed [] r low is = absurd (omega arith)
parsed (b ∷ bs) r low is = read_so b bs r low (parse_plain own 32 (b ∷ bs) r is (λ plus. let h : b ≡ 43 = plus in omega arith))
