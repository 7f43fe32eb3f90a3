-- Numbers that digits write.
use Rattle.std.proofs.Common.{◌≡◌, ℕ, zero, suc, ◌+◌, ◌-◌, ◌*◌, ◌^◌, ◌≤◌, ◌<◌, leb-true, nat_le, true, false, cond, Some, None, List, length, drop, slice_index_or, sym, ap, ◌∙◌, arith}
use Rattle.std.specs.Char.{is_ascii_digit}
use Rattle.std.proofs.lemmas.Bool.{and_parts}
use Rattle.std.proofs.lemmas.List.{drop_all}
use Rattle.std.proofs.Math.Seq.{drop-cons}
use Rattle.iso_dates.specs.Dates.{digits_from, number_in}

-- what is left of the text, behind the number so far, writes what the whole text writes
pub record AreRead (text : List ℕ) (n i : ℕ) : Type 0 where
  pub value : digits_from n (drop i text) ≡ number_in text
  pub small : n < 10 ^ i

next_digit : (text : List ℕ) (n i : ℕ) → i < length text
    → digits_from n (drop i text) ≡ cond (is_ascii_digit (slice_index_or text i 0)) (digits_from (10 * n + (slice_index_or text i 0 - 48)) (drop (i + 1) text)) None
next_digit text n i within =
    let one : i + 1 ≡ suc i = omega arith in
    rw one (ap (digits_from n) (drop-cons text i 0 within))

module _ (text : List ℕ) (n i : ℕ) (within : i < length text) (so_far : AreRead text n i) where
  pub no_number : false ≡ is_ascii_digit (slice_index_or text i 0) → None ≡ number_in text
  no_number e = sym (rw (sym e) at (next_digit text n i within)) ∙ so_far.value

  pub a_digit : (x : ℕ) → x ≡ slice_index_or text i 0 - 48 → true ≡ is_ascii_digit (slice_index_or text i 0) → AreRead text (10 * n + x) (i + 1)
  a_digit x is e =
      let b = slice_index_or text i 0 in
      let two = and_parts (nat_le 48 b) (nat_le b 57) (sym e) in
      let low = leb-true 48 b two.0 in let high = leb-true b 57 two.1 in
      let small = so_far.small in
      let one : i + 1 ≡ suc i = omega arith in
      record {
        value = rw is (sym (rw (sym e) at (next_digit text n i within)) ∙ so_far.value);
        small = rw one (omega arith);
      }

-- four digits are below ten thousand
pub power_small : (i : ℕ) → i < 4 → 10 ^ i ≤ 1000
power_small zero h = omega arith
power_small (suc zero) h = omega arith
power_small (suc (suc zero)) h = omega arith
power_small (suc (suc (suc zero))) h = omega arith
power_small (suc (suc (suc (suc i)))) h = absurd (omega arith)

pub all_read : (text : List ℕ) (n i : ℕ) → length text ≤ i → i ≤ length text → AreRead text n i → (Some n ≡ number_in text) × (n < 10 ^ length text)
all_read text n i past within so_far =
    let same : i ≡ length text = omega arith in
    (sym (ap (digits_from n) (drop_all i text past)) ∙ so_far.value, rw (sym same) so_far.small)
