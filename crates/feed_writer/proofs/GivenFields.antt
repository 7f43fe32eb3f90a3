-- The fields of a message that is read are such as can be written.
use Rattle.std.proofs.Common.{◌≡◌, ℕ, ◌+◌, ◌*◌, ◌<◌, ◌≤◌, ◌^◌, arith, true, false, not, ◌&&◌, ◌==◌, nat_le, nat_lt, List, [], ◌∷◌, Option, Some, None, option_map, Result, Ok, Err, IfOk, ℤ, unsigned_abs, inl, inr, refl, ap, subst}
use Rattle.std.specs.Result.{result_ok}
use Rattle.std.specs.Char.{is_ascii_digit, digit_value}
use Rattle.std.specs.Str.{all_ascii_digits}
use Rattle.std.specs.Str.Parse.{digits_value, digits_value_after}
use Rattle.std.proofs.lemmas.Bool.{and_parts, leb-true, ltb-true, le-ltb, lt-ltb, not-true}
use Rattle.std.proofs.lemmas.Bool.Decides.{eqb_tells}
use Rattle.std.proofs.lemmas.Option.{none-some, same_Some, cond_some}
use Rattle.feed_reader.specs.MhUnits.declared.quantities.Cents.{Cents}
use Rattle.feed_reader.specs.MhUnits.declared.numeral.NumeralFault.{NumeralFault}
use Rattle.feed_reader.specs.MhUnits.Numeral.{cents_of, IsRounded}
use Rattle.mh_io.proofs.MhUnits.Unique.{cents_reading}
use Rattle.feed_reader.specs.CsaTerms.SimmKinds.NameText.{is_full_name}
use Rattle.feed_reader.specs.Fields.{first}
use Rattle.feed_reader.specs.Values.{full_name, amount, is_counting, number}

-- the value of the first field, with the fields behind it
pub record IsFirst {A : Type 0} (read : List ℕ → Option A) (fields : List (List ℕ)) (v : A × List (List ℕ)) : Type 0 where
  pub field : List ℕ
  pub are : fields ≡ field ∷ v.1
  pub value : read field ≡ Some v.0

mapped : {A : Type 0} (o : Option A) (fields : List (List ℕ)) (v : A × List (List ℕ)) → option_map (λ value. (value, fields)) o ≡ Some v → (o ≡ Some v.0) × (fields ≡ v.1)
mapped None fields v e = absurd (none-some v e)
mapped {A} (Some x) fields v e =
    let same : (x, fields) ≡ v = same_Some (x, fields) v e in
    (ap (λ (w : A × List (List ℕ)). Some w.0) same, ap (λ (w : A × List (List ℕ)). w.1) same)

pub first_is : {A : Type 0} (read : List ℕ → Option A) (fields : List (List ℕ)) (v : A × List (List ℕ)) → first read fields ≡ Some v → IsFirst read fields v
first_is read [] v e = absurd (none-some v e)
first_is read (field ∷ fields) v e =
    let is = mapped (read field) fields v e in
    record { field = field; are = ap (λ (fs : List (List ℕ)). field ∷ fs) is.1; value = is.0 }

-- ---- names and amounts

pub first_named : (fields : List (List ℕ)) (v : List ℕ × List (List ℕ)) → first full_name fields ≡ Some v → is_full_name v.0 ≡ true
first_named fields v e =
    let both = cond_some _ _ v.0 (first_is full_name fields v e).value in
    subst (λ (name : List ℕ). is_full_name name ≡ true) both.1 both.0

in_size : (text : List ℕ) (r : Result Cents NumeralFault) (v : ℤ) → IfOk r (λ c. IsRounded 2 text c.0 × (unsigned_abs c.0 ≤ 10 ^ 15)) → option_map (λ (c : Cents). c.0) (result_ok r) ≡ Some v → unsigned_abs v ≤ 10 ^ 15
in_size text (Ok c) v small e = subst (λ (x : ℤ). unsigned_abs x ≤ 10 ^ 15) (same_Some c.0 v e) small.1
in_size text (Err f) v small e = absurd (none-some v e)

pub first_amount : (fields : List (List ℕ)) (v : ℤ × List (List ℕ)) → first amount fields ≡ Some v → unsigned_abs v.0 ≤ 10 ^ 15
first_amount fields v e =
    let is = first_is amount fields v e in
    in_size is.field (cents_of is.field) v.0 ((cents_reading is.field (cents_of is.field)).0 refl).1 is.value

-- ---- numbers

grows : (n : ℕ) (ds : List ℕ) → n ≤ digits_value_after 10 n ds
grows n [] = omega arith
grows n (d ∷ ds) = omega (arith, grows (n * 10 + digit_value d) ds)

first_counts : (b : ℕ) → (b == 48) ≡ false → is_ascii_digit b ≡ true → 0 < digit_value b
first_counts b other digit =
    let parts = and_parts (nat_le 48 b) (nat_le b 57) digit in
    let low = leb-true 48 b parts.0 in
    let high = leb-true b 57 parts.1 in
    elim (eqb_tells b 48) [
      | inl same ↦ absurd (cc (same.0, other))
      | inr apart ↦ rw (le-ltb b 48 low, lt-ltb b 58 (omega arith)) (let ne = apart.1 in omega arith)
    ]

counting : (field : List ℕ) → is_counting field ≡ true → 0 < digits_value 10 field
counting [] h = absurd (cc h)
counting (b ∷ bs) h =
    let both = and_parts (not (b == 48)) (all_ascii_digits (b ∷ bs)) h in
    let digits = and_parts (is_ascii_digit b) (all_ascii_digits bs) both.1 in
    let some = first_counts b (not-true (b == 48) both.0) digits.0 in
    omega (arith, some, grows (0 * 10 + digit_value b) bs)

pub first_number : (fields : List (List ℕ)) (v : ℕ × List (List ℕ)) → first number fields ≡ Some v → (0 < v.0) × (v.0 < 2 ^ 32)
first_number fields v e =
    let is = first_is number fields v e in
    let n = digits_value 10 is.field in
    let both = cond_some (is_counting is.field && nat_lt n (2 ^ 32)) n v.0 is.value in
    let tests = and_parts (is_counting is.field) (nat_lt n (2 ^ 32)) both.0 in
    (subst (λ x. 0 < x) both.1 (counting is.field tests.0), subst (λ x. x < 2 ^ 32) both.1 (ltb-true n (2 ^ 32) tests.1))
